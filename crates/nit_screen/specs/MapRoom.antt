-- A map of the screen, with room for the work on it.
use Rattle.std.specs.Prelude.{◌≡◌, ℕ, List}

-- what a map is seen as: the size of its screen, how many slots it has widths for, and the numbers
-- of its pixels
pub record MapRoom : Type 0 where
  pub width : ℕ
  pub height : ℕ
  pub slots : ℕ
  pub map : List ℕ

-- it is for a screen of this size, and for so many slots
abbrev pub IsRoomFor : ℕ → ℕ → ℕ → MapRoom → Type 0
IsRoomFor width height slots m = (m.width ≡ width) × (m.height ≡ height) × (m.slots ≡ slots)
