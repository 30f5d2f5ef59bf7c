-- The words that a glass may show.
use Rattle.std.specs.Prelude.{ℕ, ◌^◌, ◌<◌, ◌≤◌, ◌||◌, ◌==◌, Bool, IsTrue, List, slice_index}
use Rattle.nit_word.specs.Below.{list_any}

-- a word has three channels of eight bits: it is below 2^24
abbrev pub IsWord : ℕ → Type 0
IsWord w = w < 2 ^ 24

-- what may stand at the places of a table besides 0: at any place each of these colours, or at each
-- place what one of these lists of words has there
pub data Ink : Type 0 where
  Colours : (colours : List ℕ) → Ink
  Stages : (stages : List (List ℕ)) → Ink

-- whether one of these lists of words has the word at this place
abbrev pub is_among : List (List ℕ) → ℕ → ℕ → Bool
is_among stages i w = list_any (λ words. slice_index words i == w) stages

-- one of these lists of words has the word at this place
abbrev pub IsAmong : List (List ℕ) → ℕ → ℕ → Type 0
IsAmong stages i w = IsTrue (is_among stages i w)

-- whether the ink has the word at this place
abbrev pub has_at : Ink → ℕ → ℕ → Bool
has_at (Colours colours) i w = list_any (λ y. y == w) colours
has_at (Stages stages) i w = is_among stages i w

-- whether the word is 0, or the ink has it at this place
abbrev pub is_inked : Ink → ℕ → ℕ → Bool
is_inked ink i w = (w == 0) || has_at ink i w

-- the word is 0, or the ink has it at this place
abbrev pub IsInked : Ink → ℕ → ℕ → Type 0
IsInked ink i w = IsTrue (is_inked ink i w)

-- each place from the first to before the last may have the colour that it is given
abbrev pub AreInkedBetween : Ink → ℕ → ℕ → (ℕ → ℕ) → Type 0
AreInkedBetween ink first last colour =
    (i : ℕ) → first ≤ i → i < last → IsInked ink i (colour i)

-- the word is 0 or one of these colours
abbrev pub IsOfColours : List ℕ → ℕ → Type 0
IsOfColours colours w = IsInked (Colours colours) 0 w
