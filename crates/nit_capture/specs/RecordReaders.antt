-- A record read from left to right, pixel by pixel.
use Rattle.std.specs.Prelude.{◌≡◌, ℕ, zero, suc, ◌+◌, ◌*◌, Bool, false, ◌||◌, not, ◌==◌}
use Rattle.std.specs.Prelude.{if◌then◌else◌, List, [], ◌∷◌, Option, Some, None, slice_index}
use Rattle.nit_capture.specs.Below.{slice_set, word_of}
use Rattle.nit_capture.specs.Tiles.{tile_count, area, place}
pub use Rattle.nit_rect.specs.Options.{◌>>=◌}

-- no word: the one before the first run of a tile
abbrev pub no_word : ℕ
no_word = 0x1000000

-- A pixel's word, how many more pixels its run has, and the rest. `more` pixels of `word` are still
-- to come before the next run, whose word is another one.
unfoldable pub run_at : ℕ → ℕ → List ℕ → Option (ℕ × (ℕ × List ℕ))
run_at (suc more) word bytes = Some (word, (more, bytes))
run_at zero word (n ∷ r ∷ g ∷ b ∷ rest) =
    if word_of r g b == word then None else Some (word_of r g b, (n, rest))
run_at zero word bytes = None

-- Reads so many pixels of tile t, from pixel k on, into the picture. It gives the picture and the
-- rest, if a run ends with the tile and some pixel was another one before.
unfoldable pub pixels_at : ℕ → ℕ → ℕ → ℕ → ℕ → ℕ → Bool → List ℕ → List ℕ → Option (List ℕ × List ℕ)
pixels_at w t zero k zero word new frame bytes = if new then Some (frame, bytes) else None
pixels_at w t zero k (suc more) word new frame bytes = None
pixels_at w t (suc left) k more word new frame bytes =
    run_at more word bytes
    >>= (λ x. pixels_at w t left (k + 1) x.1.0 x.0
    (new || not (slice_index frame (place w t k) == x.0))
    (slice_set frame (place w t k) x.0) x.1.1)

-- the picture and the rest after the runs of tile t
abbrev pub tile_at : ℕ → ℕ → ℕ → List ℕ → List ℕ → Option (List ℕ × List ℕ)
tile_at w h t frame bytes = pixels_at w t (area w h t) 0 0 no_word false frame bytes

-- whether the number t stands in front, in two bytes
abbrev pub is_next : ℕ → List ℕ → Bool
is_next t (low ∷ high ∷ rest) = low + high * 256 == t
is_next t bytes = false

-- what follows two bytes
abbrev pub behind_two : List ℕ → List ℕ
behind_two (low ∷ high ∷ rest) = rest
behind_two bytes = []

-- Tile t, if it is still to be read and its number stands in front: the picture, how many tiles are
-- still to be read, and the rest.
unfoldable pub turn_at : ℕ → ℕ → ℕ → ℕ → List ℕ → List ℕ → Option (List ℕ × (ℕ × List ℕ))
turn_at w h t zero frame bytes = Some (frame, (0, bytes))
turn_at w h t (suc left) frame bytes =
    if is_next t bytes
    then (tile_at w h t frame (behind_two bytes) >>= (λ x. Some (x.0, (left, x.1))))
    else Some (frame, (suc left, bytes))

-- Goes over so many tiles, from tile t on. `left` tiles are still to be read, and none is at the
-- end.
unfoldable pub tiles_at : ℕ → ℕ → ℕ → ℕ → ℕ → List ℕ → List ℕ → Option (List ℕ × List ℕ)
tiles_at w h zero t zero frame bytes = Some (frame, bytes)
tiles_at w h zero t (suc left) frame bytes = None
tiles_at w h (suc count) t left frame bytes =
    turn_at w h t left frame bytes >>= (λ x. tiles_at w h count (t + 1) x.1.0 x.0 x.1.1)

-- the picture and the rest after a record
abbrev pub record_at : ℕ → ℕ → List ℕ → List ℕ → Option (List ℕ × List ℕ)
record_at w h frame (one ∷ low ∷ high ∷ rest) =
    if one == 1 then tiles_at w h (tile_count w h) 0 (low + high * 256) frame rest else None
record_at w h frame bytes = None

-- What a function that changes a picture returned, seen by view, is with the picture what reading
-- gives.
abbrev pub Leaves : {X Y : Type 0} → (X → Y) → Option X → List ℕ → Option (List ℕ × Y) → Type 0
Leaves view (Some x) frame read = read ≡ Some (frame, view x)
Leaves view None frame read = read ≡ None
