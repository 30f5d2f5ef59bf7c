-- The least place at which a rectangle lies in pixels of one owner.
use Rattle.std.specs.Prelude.{◌≡◌, ℕ, ◌+◌, ◌*◌, ◌<◌, ◌≤◌, ◌⊎◌, List, Option, Some, None}
use Rattle.nit_labels.specs.Below.{Point, pos, slice_index_or}

-- the owner of the pixel in this column and row; the map has them row by row
abbrev pub owner_at : List ℕ → ℕ → ℕ → ℕ → ℕ
owner_at own width x y = slice_index_or own (y * width + x) 0

-- a rectangle of w by h with its first pixel in this column and row lies on the screen, and each
-- pixel of it is owned by o
pub record OwnsArea (at : ℕ → ℕ → ℕ) (width height o w h x y : ℕ) : Type 0 where
  pub right : x + w ≤ width
  pub bottom : y + h ≤ height
  pub own : (i j : ℕ) → x ≤ i → i < x + w → y ≤ j → j < y + h → at i j ≡ o

-- the first place comes before the second one: its row is above, or its column is further left in
-- the same row
abbrev pub IsEarlier : ℕ × ℕ → ℕ × ℕ → Type 0
IsEarlier a b = (a.1 < b.1) ⊎ ((a.1 ≡ b.1) × (a.0 < b.0))

-- the pixel in this column and row
abbrev pub spot : ℕ → ℕ → Point
spot x y = record { x = pos x; y = pos y }

-- it is so at a place and at none before it; or, with no place, it is so nowhere
abbrev pub IsLeastPlace : (ℕ → ℕ → Type 0) → Option Point → Type 0
IsLeastPlace Is None = (x y : ℕ) → Is x y → ⊥
IsLeastPlace Is (Some q) =
    (x : ℕ) × (y : ℕ) × (q ≡ spot x y) × Is x y
    × ((i j : ℕ) → IsEarlier (i, j) (x, y) → Is i j → ⊥)
