-- A film as bytes.
use Rattle.std.specs.Prelude.{◌≡◌, ℕ, ◌+◌, ◌/◌, ◌%◌, ◌==◌, if◌then◌else◌, List, [], ◌∷◌, ◌++◌}
use Rattle.nit_capture.specs.Below.{channels, codes, filter, flat_map, length, range_with_len}
use Rattle.nit_capture.specs.Tiles.{IsPicture, IsPictureSize, black, tile_count, tile, differs}

-- ---- numbers and runs

-- a number in two bytes, the lower one first
abbrev pub two_bytes : ℕ → List ℕ
two_bytes n = n % 256 ∷ n / 256 ∷ []

-- A run is its length less one, and its word. A pixel in front of runs lengthens the first one
-- where it has its word, and else is a run of its own.
unfoldable pub joined : ℕ → List (ℕ × ℕ) → List (ℕ × ℕ)
joined word [] = (0, word) ∷ []
joined word (run ∷ runs) =
    if run.1 == word then (run.0 + 1, word) ∷ runs else (0, word) ∷ run ∷ runs

-- the runs of pixels, each as long as equal pixels last
unfoldable pub runs : List ℕ → List (ℕ × ℕ)
runs [] = []
runs (word ∷ words) = joined word (runs words)

-- a run as bytes: its length less one, and its channels
abbrev pub run_bytes : ℕ × ℕ → List ℕ
run_bytes run = run.0 ∷ channels run.1

-- ---- records and the stream

-- a tile as bytes: its number, and the runs of its pixels
unfoldable pub tile_bytes : ℕ → ℕ → List ℕ → ℕ → List ℕ
tile_bytes w h picture t = two_bytes t ++ flat_map run_bytes (runs (tile w h picture t))

-- the numbers of the tiles that differ, rising
abbrev pub changed_tiles : ℕ → ℕ → List ℕ → List ℕ → List ℕ
changed_tiles w h before now = filter (differs w h before now) (range_with_len 0 (tile_count w h))

-- the record of a picture after another one: 1, how many tiles differ, and these tiles
unfoldable pub record_of : ℕ → ℕ → List ℕ → List ℕ → List ℕ
record_of w h before now =
    1 ∷ two_bytes (length (changed_tiles w h before now))
    ++ flat_map (tile_bytes w h now) (changed_tiles w h before now)

-- the records of pictures, each after the one before it
abbrev pub records : ℕ → ℕ → List ℕ → List (List ℕ) → List ℕ
records w h before [] = []
records w h before (now ∷ more) = record_of w h before now ++ records w h now more

-- what stands in front of the records: a name, the width and the height
abbrev pub film_header : ℕ → ℕ → List ℕ
film_header w h = codes "NCAP" ++ (two_bytes w ++ two_bytes h)

-- the one stream of a film: the header, the records, and 0
abbrev pub stream : ℕ → ℕ → List (List ℕ) → List ℕ
stream w h film = film_header w h ++ (records w h (black w h) film ++ 0 ∷ [])

-- ---- what bytes begin with

-- bytes begin with a header of this size, and the rest follows
pub record HasHeader (bytes : List ℕ) (w h : ℕ) (rest : List ℕ) : Type 0 where
  pub bytes_are : bytes ≡ film_header w h ++ rest
  pub size : IsPictureSize w h

-- bytes begin with the record of picture `now` after `before`, and the rest follows
pub record HasRecord (w h : ℕ) (before bytes now rest : List ℕ) : Type 0 where
  pub bytes_are : bytes ≡ record_of w h before now ++ rest
  pub picture : IsPicture w h now
