-- What is known while the map of owners is passed from its last pixel to its first.
use Rattle.std.specs.Prelude.{◌≡◌, ℕ, ◌+◌, ◌-◌, ◌<◌, ◌≤◌, ◌⊎◌, ◌&&◌, Bool, List, Option, None}
use Rattle.std.specs.Prelude.{length, Some, min, nat_le, nat_lt, set, if◌then◌else◌}
use Rattle.nit_labels.specs.Below.{Point, slice_index_or}
use Rattle.nit_labels.specs.Places.{OwnsArea, IsLeastPlace}

-- ---- down

-- one row more, up to h; or the row alone
abbrev pub counted : Bool → ℕ → ℕ → ℕ
counted goes_on d h = if goes_on then min (d + 1) h else 1

-- how many pixels from this one downwards have its owner, counted up to h
pub record CountsDown (at : ℕ → ℕ → ℕ) (height h x y d : ℕ) : Type 0 where
  pub most : d ≤ h
  pub within : y + d ≤ height
  pub same : (j : ℕ) → y ≤ j → j < y + d → at x j ≡ at x y
  pub more : d < h → y + d < height → at x (y + d) ≡ at x y → ⊥

-- a row of the map of owners
pub record IsRowOf (at : ℕ → ℕ → ℕ) (width y : ℕ) (row : List ℕ) : Type 0 where
  pub count : length row ≡ width
  pub owners : (x : ℕ) → x < width → slice_index_or row x 0 ≡ at x y

-- the counts of a row
abbrev pub AreDown : (ℕ → ℕ → ℕ) → ℕ → ℕ → ℕ → ℕ → List ℕ → Type 0
AreDown at width height h y down =
    (x : ℕ) → x < width → CountsDown at height h x y (slice_index_or down x 0)

-- ---- along a row

-- the h pixels from this one downwards are owned by o
pub record OwnsDown (at : ℕ → ℕ → ℕ) (height h o x y : ℕ) : Type 0 where
  pub bottom : y + h ≤ height
  pub own : (j : ℕ) → y ≤ j → j < y + h → at x j ≡ o

-- the column k is as tall as h, and of the owner of the column x
abbrev pub IsOfRun : List ℕ → List ℕ → ℕ → ℕ → ℕ → Type 0
IsOfRun row down h x k =
    (slice_index_or row k 0 ≡ slice_index_or row x 0) × (slice_index_or down k 0 ≡ h)

-- how many columns from this one to the right are as tall as h and of its owner
pub record IsRun (at : ℕ → ℕ → ℕ) (width height h x y r : ℕ) : Type 0 where
  pub within : x + r ≤ width
  pub own : (i : ℕ) → x ≤ i → i < x + r → OwnsDown at height h (at x y) i y
  pub more : x + r < width → OwnsDown at height h (at x y) (x + r) y → ⊥

-- ---- places

-- the row above has the same owners
abbrev pub IsAgainAbove : (ℕ → ℕ → ℕ) → ℕ → ℕ → Type 0
IsAgainAbove at width y = (x : ℕ) → x < width → at x (y - 1) ≡ at x y

-- a row of other owners than the one above it
abbrev pub IsTop : (ℕ → ℕ → ℕ) → ℕ → ℕ → Type 0
IsTop at width y = 0 < y → IsAgainAbove at width y → ⊥

-- the second place is the first one or comes after it
abbrev pub IsFrom : ℕ → ℕ → ℕ → ℕ → Type 0
IsFrom x y i j = (y < j) ⊎ ((y ≡ j) × (x ≤ i))

-- the least place among those from this one on
abbrev pub IsLeastFrom : (ℕ → ℕ → Type 0) → ℕ → ℕ → Option Point → Type 0
IsLeastFrom Is x y q = IsLeastPlace (λ i j. IsFrom x y i j × Is i j) q

-- each owner's least place among those from this one on, in rows of other owners than the row
-- above: what is free in a row is free in the same row above it
abbrev pub AreFoundFrom : (ℕ → ℕ → ℕ) → ℕ → ℕ → List ℕ → ℕ → ℕ → ℕ → List (Option Point) → Type 0
AreFoundFrom at width height widths h x y found =
    (o : ℕ) → o < length widths → 1 ≤ slice_index_or widths o 0
    → IsLeastFrom
    (λ i j. IsTop at width j × OwnsArea at width height o (slice_index_or widths o 0) h i j) x y
    (slice_index_or found o None)

-- the places with this one for an owner, where the run is as long as its width
abbrev pub put_where : List ℕ → ℕ → ℕ → Point → List (Option Point) → List (Option Point)
put_where widths o run q found =
    if (nat_lt o (length widths) && nat_le (slice_index_or widths o 0) run)
    then set found o (Some q) else found
