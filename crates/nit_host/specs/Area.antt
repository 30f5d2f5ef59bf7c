-- Parts of the screen, as columns and rows.
use Rattle.std.specs.Prelude.{◌≡◌, ◌<◌, ◌%◌, ◌/◌, ℕ, Bool, List, All, false, pos, ℤ, negsuc}
use Rattle.std.specs.Prelude.{slice_index, true, ◌≤ℤ◌}
use Rattle.nit_host.specs.Below.{Area, IsAreaOf, has_any, has_place}

-- the test holds of the pixel of a number, by its column and row on a screen of this width
abbrev pub is_inside : ℕ → (ℕ → ℕ → Bool) → ℕ → Bool
is_inside width test k = test (k % width) (k / width)

-- of so many pixels those of which the test does not hold are the same in both pictures
abbrev pub StaysOutside : ℕ → ℕ → (ℕ → ℕ → Bool) → List ℕ → List ℕ → Type 0
StaysOutside width count test before after =
    (k : ℕ) → k < count → is_inside width test k ≡ false
    → slice_index before k ≡ slice_index after k

-- a column or row that is not further off than three places together
abbrev pub IsInReach : ℤ → Type 0
IsInReach z = (negsuc 98303 ≤ℤ z) × (z ≤ℤ pos 98303)

-- the area lies on the screen of this size, and has all its pixels at which this holds
pub record HoldsWhere (width height : ℕ) (test : ℕ → ℕ → Bool) (a : Area) : Type 0 where
  pub area : IsAreaOf width height a
  pub there : (x y : ℕ) → x < width → y < height → test x y ≡ true → has_place a x y ≡ true

-- areas with all pixels of the old ones, and with those of two more unless nothing changed
pub record HoldsUnless (is_same : Bool) (old : List Area) (before after : Area)
    (new : List Area) : Type 0 where
  pub screen : (width height : ℕ) → All (IsAreaOf width height) old
      → IsAreaOf width height before → IsAreaOf width height after
      → All (IsAreaOf width height) new
  pub own : (x y : ℕ) → has_any old x y ≡ true → has_any new x y ≡ true
  pub first : is_same ≡ false → (x y : ℕ) → has_place before x y ≡ true → has_any new x y ≡ true
  pub second : is_same ≡ false → (x y : ℕ) → has_place after x y ≡ true → has_any new x y ≡ true
