-- How wide labels are, slot by slot.
use Rattle.std.specs.Prelude.{◌≡◌, ℕ, List, slice_get, Some}
use Rattle.nit_screen.specs.Below.{Lettering, SlotView, StackModel}
use Rattle.nit_screen.specs.FrameLabels.{label_width}
use Rattle.nit_screen.specs.LabelSlots.{label_scenery}

-- at the slot of each view stands how wide its label is
abbrev pub AreMeasured : Lettering → StackModel → List (List ℕ) → List ℕ → Type 0
AreMeasured lettering s labels widths =
    (k : ℕ) (v : SlotView) → slice_get s.views k ≡ Some v
    → slice_get widths v.slot ≡ Some (label_width (label_scenery lettering s labels) v.view)
