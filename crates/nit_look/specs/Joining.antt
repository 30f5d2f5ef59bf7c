-- Areas that become one with another area.
use Rattle.std.specs.Prelude.{◌≡◌, ◌≤◌, ◌||◌, ℕ, true, false, List, length}
use Rattle.nit_look.specs.Area.{HasPlaces, has_place, is_area_within}
use Rattle.nit_look.specs.Below.{Area}
use Rattle.nit_look.specs.Parts.{AreParts, AreWithin, has_any}

-- Some areas and one beside them, which took in others of them: these have the pixels of the old
-- ones, and lie in every area in which those do.
pub record IsJoined (old : List Area) (one : Area) (new : List Area) (all : Area) : Type 0 where
  pub fewer : length new ≤ length old
  pub parts : AreParts old → AreParts new
  pub pixels : HasPlaces one → HasPlaces all
  pub own : (x y : ℕ) → (has_place one x y || has_any old x y) ≡ true
      → (has_place all x y || has_any new x y) ≡ true
  pub within : (a : Area) → AreWithin a old → is_area_within one a ≡ true
      → AreWithin a new × (is_area_within all a ≡ true)

-- it meets none of them
abbrev pub IsApartFrom : Area → List Area → Type 0
IsApartFrom a areas = (x y : ℕ) → has_place a x y ≡ true → has_any areas x y ≡ false
