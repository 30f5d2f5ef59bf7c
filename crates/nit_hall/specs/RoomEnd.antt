-- What a room knows of passes that are done, and what its last picture shows.
use Rattle.std.specs.Prelude.{◌≡◌, ℕ, List, length, map, take, slice_index, Some}
use Rattle.nit_hall.specs.Below.{Bare, Black, Configuration, IsGlass, Line, PixelSource, State}
use Rattle.nit_hall.specs.Below.{Word, bare_word, donation_of, pixel_count, range_with_len}
use Rattle.nit_hall.specs.Below.{script_in, script_ink, source_at, words_after, words_left}
use mathlib.Core.List.{IsPrefix}
use Rattle.nit_hall.specs.ServedLines.{served}
use Rattle.nit_hall.specs.Pass.{PassModel}
use Rattle.nit_hall.specs.Room.{RoomModel, without_final}

-- What a room knows of the pass of this number when they have met: it knows a front of the journal;
-- as many of its lines were served as are done; and its words are those of its session's table,
-- with its script's ink, as the lines that are done leave them.
pub record IsKnownPass (r : RoomModel) (k : ℕ) (p : PassModel) : Type 0 where
  pub front : IsPrefix p.seen (without_final r.scene.entries)
  pub counted : slice_index r.counts k ≡ length (served (take p.next p.script))
  pub glass : IsGlass r.parts.config k p.sight
  pub inked : p.sight.ink ≡ script_ink p.script p.donation
  pub told : p.sight.words ≡ Some (words_after p.script p.donation p.next)

-- the word of a pixel, where each session's table has the words that its whole script leaves
abbrev pub left_word : Configuration → List (List Line) → PixelSource → ℕ
left_word config scripts Bare = bare_word
left_word config scripts Black = 0
left_word config scripts (Word t i) =
    slice_index (words_left (script_in scripts t) (donation_of config t)) i

-- the words of all pixels of a state, so
abbrev pub words_left_in : Configuration → List (List Line) → State → List ℕ
words_left_in config scripts s =
    map (λ k. left_word config scripts (source_at s k)) (range_with_len 0 (pixel_count s))
