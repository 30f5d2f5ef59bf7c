-- A map of the screen: for each pixel the slot of the view that owns it.
use Rattle.std.specs.Prelude.{◌≡◌, ℕ, ◌*◌, ◌<◌, List, length, slice_index, Option, Some, None}
use Rattle.nit_overlay.specs.Below.{SlotView, pixel, seat_owner}
use Rattle.nit_stack.specs.Stack.{StackModel}

-- the number of a pixel that no view owns, which is no slot
abbrev pub no_slot : ℕ
no_slot = 65535

-- the number of a pixel by its owner
abbrev pub number_of : Option SlotView → ℕ
number_of None = no_slot
number_of (Some s) = s.slot

-- the number of a pixel
abbrev pub number_at : StackModel → ℕ → ℕ
number_at s k = number_of (seat_owner s.bar s.views (pixel s.width k))

-- the map has each pixel's number
abbrev pub IsMap : StackModel → List ℕ → Type 0
IsMap s map = (k : ℕ) → k < s.width * s.height → slice_index map k ≡ number_at s k

-- and no other
pub record IsMapOf (s : StackModel) (map : List ℕ) : Type 0 where
  pub count : length map ≡ s.width * s.height
  pub numbers : IsMap s map
