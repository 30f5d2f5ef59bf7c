-- A change of one view of a stack, told by the view's slot.
use Rattle.std.specs.Prelude.{◌≡◌, ℕ, ◌⊎◌, Bool, ◌||◌, Some}
use Rattle.nit_repaint.specs.Below.{NoPair, Point, Rectangle, SlotView, StackModel, is_slot}
use Rattle.nit_repaint.specs.Below.{place_of, same_slot, slot_view_in, views_of, without}
use Rattle.nit_repaint.specs.PixelOwners.{owner_passes}

-- The view in slot k stood at a place with a rectangle before. All other views stand as they stood.
-- Where it is still there, it has kept its place or its rectangle.
pub record IsViewChange (k at : ℕ) (rect : Rectangle) (before after : StackModel) : Type 0 where
  pub slots : NoPair same_slot before.views
  pub seat : (s : SlotView) × (slot_view_in k before.views ≡ Some s) × (s.view.rect ≡ rect)
  pub place : place_of k before.views ≡ at
  pub bar : before.bar ≡ after.bar
  pub others : views_of (without (is_slot k) before.views)
      ≡ views_of (without (is_slot k) after.views)
  pub kept : (s : SlotView) → slot_view_in k after.views ≡ Some s
      → (s.view.rect ≡ rect) ⊎ (place_of k after.views ≡ at)

-- the view in the slot owned the pixel before or owns it after
abbrev pub slot_owns_either : ℕ → StackModel → StackModel → Point → Bool
slot_owns_either k before after p =
    owner_passes (is_slot k) before p || owner_passes (is_slot k) after p
