-- Where the labels of views stand, slot by slot.
use Rattle.std.specs.Prelude.{◌≡◌, ℕ, List, All, slice_get, Option, Some, None, option_map}
use Rattle.nit_screen.specs.Below.{Lettering, Point, Scenery, SlotView, StackModel, Xray}
use Rattle.nit_screen.specs.Below.{label_place_of}
use Rattle.nit_screen.specs.Below.{pixel_at, views_of}

-- the views of a stack with the labels of their sessions, by which labels are placed that are drawn
-- so; the mode and the focus do not matter
abbrev pub label_scenery : Lettering → StackModel → List (List ℕ) → Scenery
label_scenery lettering stack labels =
    record {
      width = stack.width;
      height = stack.height;
      bar = stack.bar;
      stack = views_of stack.views;
      labels = labels;
      mode = Xray;
      focus = None;
      lettering = lettering;
    }

-- at the slot of a view stands the place of its label, or that it has none
abbrev pub IsLabelled : Lettering → StackModel → List (List ℕ) → List (Option Point)
    → SlotView → Type 0
IsLabelled lettering stack labels places s =
    slice_get places s.slot
    ≡ Some (option_map pixel_at (label_place_of (label_scenery lettering stack labels) s.view))

-- so it is at the slot of each view
abbrev pub AreLabelled : Lettering → StackModel → List (List ℕ) → List (Option Point) → Type 0
AreLabelled lettering stack labels places =
    All (IsLabelled lettering stack labels places) stack.views
