-- Maps of owners.
use Rattle.std.specs.Prelude.{◌≡◌, ℕ, ◌<◌, ◌==◌, List}
use Rattle.nit_place.specs.Below.{View, owns, point}

-- a pixel of the screen has this number on the map exactly where the view owns it
abbrev pub IsNumberOf : (ℕ → ℕ → ℕ) → ℕ → ℕ → ℕ → List View → View → ℕ → Type 0
IsNumberOf at width height rows stack v o =
    (x y : ℕ) → x < width → y < height
    → (at x y == o) ≡ owns width height rows stack v (point x y)
