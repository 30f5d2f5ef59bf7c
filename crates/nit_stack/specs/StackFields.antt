-- The stack as it is kept: the slots in their order, and the views by slot.
use Rattle.std.specs.Prelude.{ℕ, ◌<◌, List, length, map, slice_index_or}
use Rattle.nit_stack.specs.Below.{View}
use Rattle.nit_stack.specs.Sources.{Size}
use Rattle.nit_stack.specs.Stack.{SlotView, StackModel, fresh, slot_view_layer}

-- the view in a slot
abbrev pub slot_view : List View → ℕ → SlotView
slot_view slots k = record { slot = k; view = slice_index_or slots k (fresh 0 0) }

-- the layer of the session of the view in a slot
abbrev pub layer_in : List View → List ℕ → ℕ → ℕ
layer_in slots layers k = slot_view_layer layers (slot_view slots k)

-- a width and a height
abbrev pub size : ℕ × ℕ → Size
size z = record { w = z.0; h = z.1 }

-- what contracts see, by the fields of the code
abbrev pub stack_model : List ℕ → List View → List (ℕ × ℕ) → List ℕ → ℕ → ℕ → ℕ → StackModel
stack_model order slots sizes layers width height bar =
    record {
      views = map (slot_view slots) order;
      sizes = map size sizes;
      layers = layers;
      width = width;
      height = height;
      bar = bar;
      most = length slots;
    }

-- the slot is there, and so is the layer of its view's session
abbrev pub HasLayer : List View → List ℕ → ℕ → Type 0
HasLayer slots layers k =
    (k < length slots) × ((slice_index_or slots k (fresh 0 0)).sid < length layers)
