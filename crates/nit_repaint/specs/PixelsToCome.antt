-- Pixels that a cutter hands out, by their numbers.
use Rattle.nit_repaint.specs.Below.{Bool, CutterModel, StackModel, nat_lt, pixel, to_come, ℕ}

-- the pixel is still to come
abbrev pub is_to_come : CutterModel → StackModel → ℕ → Bool
is_to_come c s k = nat_lt 0 (to_come c s (pixel s.width k))

-- the pixel came while the cutter went from the first state to the second
abbrev pub has_come : CutterModel → CutterModel → StackModel → ℕ → Bool
has_come before now s k =
    nat_lt (to_come now s (pixel s.width k)) (to_come before s (pixel s.width k))
