-- A row of the map of owners while it is written, view by view from the front.
use Rattle.std.specs.Prelude.{Bool, List, if◌then◌else◌, length, not, slice_index}
use Rattle.std.specs.Prelude.{true, ℕ, ◌&&◌, ◌<◌, ◌==◌, ◌≡◌, ◌≤◌}
use Rattle.nit_screen.specs.Below.{no_slot}

-- the pixel in this column has the number of a view
abbrev pub is_filled : List ℕ → ℕ → Bool
is_filled row x = not (slice_index row x == no_slot)

-- a pixel without a number gets this one, where it is chosen
abbrev pub numbered : Bool → ℕ → ℕ → ℕ
numbered chosen number old = if chosen && old == no_slot then number else old

-- the chosen pixels of a row that were without a number have this one, and all others are as before
pub record AreNumbered (chosen : ℕ → Bool) (number : ℕ) (old new : List ℕ) : Type 0 where
  pub words : (x : ℕ) → x < length old
      → slice_index new x ≡ numbered (chosen x) number (slice_index old x)
  pub count : length new ≡ length old

-- all pixels from column x to before another one are filled
pub record SkipsFilled (filled : ℕ → Bool) (width x next : ℕ) : Type 0 where
  pub after : x ≤ next
  pub within : next ≤ width
  pub all : (k : ℕ) → x ≤ k → k < next → filled k ≡ true

-- so it is from each column of a row
abbrev pub AreSkips : (ℕ → Bool) → List ℕ → Type 0
AreSkips filled next =
    (x : ℕ) → x < length next → SkipsFilled filled (length next) x (slice_index next x)

-- there is a number for each pixel of a row of so many, and from each a column to go on at
pub record IsRowOfMap (width : ℕ) (row next : List ℕ) : Type 0 where
  pub pixels : length row ≡ width
  pub columns : length next ≡ width
