-- Which words a client's table may have between two lines of its script that the room serves.
use Rattle.std.specs.Prelude.{◌≡◌, ℕ, suc, ◌+◌, ◌≤◌, List, ◌∷◌, Option, Some, drop, length, take}
use Rattle.nit_hall.specs.Below.{Line, Sight, calls_in, reader_sight, stages_within, with_stages}
use Rattle.nit_script.specs.declared.line.Line.TheVariants as line
use Rattle.nit_hall.specs.ServedLines.{phases_before}

-- how many strokes the lines begin with
abbrev pub strokes_in_front : List Line → ℕ
strokes_in_front (line.Stroke s ∷ rest) = suc (strokes_in_front rest)
strokes_in_front other = 0

-- how many lines are done when the strokes from line k on are
abbrev pub stretch_end : List Line → ℕ → ℕ
stretch_end script k = k + strokes_in_front (drop k script)

-- the words of the table before the strokes from line k on, and after each of them
abbrev pub stretch : List Line → ℕ → ℕ → List (List ℕ)
stretch script donation k = stages_within script donation k (stretch_end script k)

-- the words of the table before line k and after it
abbrev pub line_stages : List Line → ℕ → ℕ → List (List ℕ)
line_stages script donation k = stages_within script donation k (k + 1)

-- The stages have the words that the first `next` lines of the script leave, and those that each
-- stroke that follows them leaves.
pub record HasStretch (script : List Line) (donation next : ℕ) (stages : Option (List (List ℕ)))
    : Type 0 where
  pub since : ℕ
  pub until : ℕ
  pub stages_are : stages ≡ Some (stages_within script donation since until)
  pub begun : since ≤ next
  pub whole : stretch_end script next ≤ until

-- A reader's end knows the words that the lines from `since` to `until` of the script leave: these
-- are strokes alone, after so many calls, and in this phase.
pub record KnowsStretch (script : List Line) (donation made phase : ℕ) (sight : Sight)
    : Type 0 where
  pub since : ℕ
  pub until : ℕ
  pub stages_are : sight.stages ≡ Some (stages_within script donation since until)
  pub strokes : until ≤ stretch_end script since
  pub made_before : length (calls_in (take since script)) ≡ made
  pub in_phase : phases_before script since ≡ phase

-- a new reader's sight of an owner's words that knows these stages
abbrev pub watching_sight : List (List ℕ) → Sight → Sight
watching_sight stages sight = with_stages stages (reader_sight sight)
