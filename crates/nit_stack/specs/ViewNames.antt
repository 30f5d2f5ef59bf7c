-- Views by their slots, and by their sessions and handles.
use Rattle.std.specs.Prelude.{◌≡◌, ℕ, ◌==◌, Bool, List, map, Option, Some, if◌then◌else◌}
use Rattle.nit_stack.specs.Below.{AllByRecursion, View, option_map}
use Rattle.nit_stack.specs.LabelPlaces.{is_view}
use Rattle.nit_stack.specs.Orders.{moved, put_above}
use Rattle.nit_stack.specs.Stack.{NoPair, SlotView, is_named, is_slot, same_name, same_slot}
use Rattle.nit_stack.specs.Stack.{slot_view_in}

-- the views without their slots
abbrev pub views_of : List SlotView → List View
views_of seats = map (λ s. s.view) seats

-- a view's session and handle
abbrev pub name_of : SlotView → ℕ × ℕ
name_of s = (s.view.sid, s.view.handle)

-- the session and handle of the view in a slot, where there is one
abbrev pub name_in : ℕ → List SlotView → Option (ℕ × ℕ)
name_in k seats = option_map name_of (slot_view_in k seats)

-- No two views have one slot, nor the same session and handle, and the view in slot k has this
-- session and handle.
pub record IsNamedBy (k sid handle : ℕ) (seats : List SlotView) : Type 0 where
  pub slots : NoPair same_slot seats
  pub names : NoPair same_name seats
  pub name : name_in k seats ≡ Some (sid, handle)

-- The view in slot k is the one of this session and handle; and where the one is not there, neither
-- is the other.
abbrev pub MeanSame : ℕ → ℕ → ℕ → List SlotView → Type 0
MeanSame k sid handle seats = AllByRecursion (λ s. is_slot k s ≡ is_named sid handle s) seats

-- the layer of a view, by that of its session
abbrev pub view_layer : (ℕ → ℕ) → View → ℕ
view_layer layer v = layer v.sid

-- the layer of a view that stands in a slot
abbrev pub layer_of_slot_view : (ℕ → ℕ) → SlotView → ℕ
layer_of_slot_view layer s = layer s.view.sid

-- one view of a session directly in front of another; unchanged where the two are one
abbrev pub view_above : ℕ → ℕ → ℕ → List View → List View
view_above sid handle next views =
    if handle == next
    then views
    else moved (is_view sid handle) (put_above (is_view sid next)) views

-- the view belongs to this session
abbrev pub is_session : ℕ → View → Bool
is_session sid v = v.sid == sid
