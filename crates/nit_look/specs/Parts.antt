-- At most 16 areas, no two of which meet.
use Rattle.std.specs.Prelude.{◌≡◌, ◌≤◌, ◌<◌, ◌++◌, ℕ, Bool, true, false, List, [], ◌∷◌, length, All}
use Rattle.std.specs.Prelude.{count_by, nat_lt}
use Rattle.nit_look.specs.Area.{HasPlaces, has_place, is_area_within}
use Rattle.nit_look.specs.Below.{Area, list_any}

-- in how many of the areas the pixel of this column and row lies
abbrev pub areas_over : List Area → ℕ → ℕ → ℕ
areas_over areas x y = count_by (λ a. has_place a x y) areas

-- it lies in some of them
abbrev pub has_any : List Area → ℕ → ℕ → Bool
has_any areas x y = nat_lt 0 (areas_over areas x y)

-- so many areas there are at most
abbrev pub most_parts : ℕ
most_parts = 16

-- they are few, each has a pixel, and no pixel lies in two of them
pub record AreParts (areas : List Area) : Type 0 where
  pub few : length areas ≤ most_parts
  pub pixels : All HasPlaces areas
  pub once : (x y : ℕ) → areas_over areas x y ≤ 1

-- the edges of each of them are within those of the area
abbrev pub AreWithin : Area → List Area → Type 0
AreWithin a areas = All (λ p. is_area_within p a ≡ true) areas

-- An area is added: all pixels of the old ones and its own lie in the new ones, which lie in every
-- area in which all of these do. One that has no pixel, or lies in one of the old ones, changes
-- nothing. One that meets none of them is the last of the new ones, if they were fewer than 16.
pub record IsAreaAdded (old : List Area) (added : Area) (new : List Area) : Type 0 where
  pub kept : (x y : ℕ) → has_any old x y ≡ true → has_any new x y ≡ true
  pub own : (x y : ℕ) → has_place added x y ≡ true → has_any new x y ≡ true
  pub within : (a : Area) → AreWithin a old → is_area_within added a ≡ true → AreWithin a new
  pub empty : ((x y : ℕ) → has_place added x y ≡ false) → new ≡ old
  pub inside : list_any (is_area_within added) old ≡ true → new ≡ old
  pub apart : HasPlaces added → length old < most_parts
      → ((x y : ℕ) → has_place added x y ≡ true → has_any old x y ≡ false)
      → new ≡ old ++ added ∷ []
