-- A part of a screen's words that is painted.
use Rattle.std.specs.Prelude.{◌≡◌, ℕ, ◌<◌, ◌≤◌, List, slice_index}
use Rattle.nit_overlay.specs.Below.{RowPart, most_width}

-- a part of a row that has so many pixels
pub record IsRowPart (count : ℕ) (part : RowPart) : Type 0 where
  pub in_order : part.from ≤ part.to
  pub within : part.to ≤ count
  pub across : part.to ≤ most_width

-- From the index `from` to before `to` each word is by f of its index and its raw word; the others
-- are as before.
pub record IsPainted (f : ℕ → ℕ → ℕ) (raw old now : List ℕ) (from to : ℕ) : Type 0 where
  pub painted : (k : ℕ) → from ≤ k → k < to → slice_index now k ≡ f k (slice_index raw k)
  pub before : (k : ℕ) → k < from → slice_index now k ≡ slice_index old k
  pub after : (k : ℕ) → to ≤ k → slice_index now k ≡ slice_index old k
