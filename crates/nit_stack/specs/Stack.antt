-- What contracts see of a stack: its views with their slots, front first, and what the screen and
-- the sessions have.
use Rattle.std.specs.Prelude.{◌≡◌, ℕ, ◌<◌, ◌≤◌, ◌==◌, Bool, false, nat_lt, ℤ, pos, List, []}
use Rattle.std.specs.Prelude.{◌∷◌, length, find, replicate, slice_index, slice_index_or, All}
use Rattle.std.specs.Prelude.{Option, if◌then◌else◌}
use Rattle.nit_stack.specs.Below.{IsPlace, Point, Rectangle, View, ViewRef, list_any, most_height}
use Rattle.nit_stack.specs.Below.{most_length, most_picture_height, most_sessions, most_side}
use Rattle.nit_stack.specs.Below.{most_slots, most_width, option_map, position_or_len, rectangle}
pub use Rattle.nit_rect.specs.Screen.{IsOnScreen}
use Rattle.nit_stack.specs.LabelPlaces.{is_view}
use Rattle.nit_stack.specs.Orders.{put_front, put_back, put_above, moved}
use Rattle.nit_stack.specs.Sources.{Size, no_size, owner_in}

-- a view, with the number of the slot that keeps it
pub record SlotView : Type 0 where
  pub slot : ℕ
  pub view : View

-- The views front first; each session's buffer size and layer; the screen's width and height; the
-- number of bar rows; and how many slots there are.
pub record StackModel : Type 0 where
  pub views : List SlotView
  pub sizes : List Size
  pub layers : List ℕ
  pub width : ℕ
  pub height : ℕ
  pub bar : ℕ
  pub most : ℕ

-- the name by which a view's slot is handed out
abbrev pub view_ref : SlotView → ViewRef
view_ref s = record { 0 = s.slot }

-- a view as it is made: an empty rectangle at (0, 0), no offset, an empty title
abbrev pub fresh : ℕ → ℕ → View
fresh sid handle =
    record {
      sid = sid;
      handle = handle;
      rect = rectangle (pos 0) (pos 0) 0 0;
      ox = pos 0;
      oy = pos 0;
      title = [];
    }

-- a new view in a slot
abbrev pub fresh_in : ℕ → ℕ → ℕ → SlotView
fresh_in k sid handle = record { slot = k; view = fresh sid handle }

-- no view and no bar, and for each session no buffer and layer 0
abbrev pub empty_stack : ℕ → ℕ → ℕ → ℕ → StackModel
empty_stack width height sessions most =
    record {
      views = [];
      sizes = replicate sessions no_size;
      layers = replicate sessions 0;
      width = width;
      height = height;
      bar = 0;
      most = most;
    }

-- the view stands in this slot
abbrev pub is_slot : ℕ → SlotView → Bool
is_slot k s = s.slot == k

-- some view stands in this slot
abbrev pub has_slot : ℕ → List SlotView → Bool
has_slot k views = list_any (is_slot k) views

-- the view in this slot, where there is one
abbrev pub slot_view_in : ℕ → List SlotView → Option SlotView
slot_view_in k views = find (is_slot k) views

-- how many views stand in front of the one in this slot; all of them, where none is in this slot
abbrev pub place_of : ℕ → List SlotView → ℕ
place_of k views = position_or_len (is_slot k) views

-- the view is the one of this session and handle
abbrev pub is_named : ℕ → ℕ → SlotView → Bool
is_named sid handle s = is_view sid handle s.view

-- the view belongs to this session
abbrev pub is_of_session : ℕ → SlotView → Bool
is_of_session sid s = s.view.sid == sid

-- the layer of a session
abbrev pub layer_of : List ℕ → ℕ → ℕ
layer_of layers sid = slice_index layers sid

-- the layer of a view's session
abbrev pub slot_view_layer : List ℕ → SlotView → ℕ
slot_view_layer layers s = layer_of layers s.view.sid

-- the layer of the session of the view in this slot, where there is one
abbrev pub slot_layer : StackModel → ℕ → Option ℕ
slot_layer s k = option_map (slot_view_layer s.layers) (slot_view_in k s.views)

-- the size of a session's buffer
abbrev pub size_of : List Size → ℕ → Size
size_of sizes sid = slice_index_or sizes sid no_size

-- a view with another rectangle, another offset, another title
abbrev pub with_rect : Rectangle → View → View
with_rect r v = record v { rect = r }

abbrev pub with_offset : ℤ → ℤ → View → View
with_offset ox oy v = record v { ox = ox; oy = oy }

abbrev pub with_title : List ℕ → View → View
with_title t v = record v { title = t }

-- a change of a view, in its slot
abbrev pub on_view : (View → View) → SlotView → SlotView
on_view change s = record s { view = change s.view }

-- in front of all of its own layer and of the layers behind
abbrev pub put_own_front : {A : Type 0} → (A → ℕ) → A → List A → List A
put_own_front layer a xs = put_front layer (layer a) a xs

-- behind all of its own layer and of the layers in front
abbrev pub put_own_back : {A : Type 0} → (A → ℕ) → A → List A → List A
put_own_back layer a xs = put_back layer (layer a) a xs

-- v directly in front of n; unchanged where the two are one
abbrev pub moved_above : ℕ → ℕ → List SlotView → List SlotView
moved_above v n views = if v == n then views else moved (is_slot v) (put_above (is_slot n)) views

-- no element of the list is related to a later one
abbrev pub NoPair : {A : Type 0} → (A → A → Bool) → List A → Type 0
NoPair related [] = Unit {0}
NoPair related (x ∷ xs) = (list_any (related x) xs ≡ false) × NoPair related xs

-- the two stand in one slot
abbrev pub same_slot : SlotView → SlotView → Bool
same_slot a b = b.slot == a.slot

-- the two have the same session and handle
abbrev pub same_name : SlotView → SlotView → Bool
same_name a b = is_named a.view.sid a.view.handle b

-- b has a layer in front of a's
abbrev pub falls : {A : Type 0} → (A → ℕ) → A → A → Bool
falls layer a b = nat_lt (layer b) (layer a)

-- the view with its slot that owns a pixel
abbrev pub seat_owner : ℕ → List SlotView → Point → Option SlotView
seat_owner rows seats p = owner_in (λ s. s.view) rows seats p

-- a rectangle's numbers are in their range
abbrev pub IsRectInRange : Rectangle → Type 0
IsRectInRange r = IsPlace r.x × IsPlace r.y × (r.w ≤ most_length) × (r.h ≤ most_length)

-- a view of a stack with so many slots and sessions
pub record IsSlotView (most sessions : ℕ) (s : SlotView) : Type 0 where
  pub slot : s.slot < most
  pub session : s.view.sid < sessions
  pub column : IsPlace s.view.ox
  pub row : IsPlace s.view.oy
  pub rect : IsRectInRange s.view.rect

-- a buffer has at most 4096 columns and 4096 rows
abbrev pub IsBufferSize : Size → Type 0
IsBufferSize z = (z.w ≤ most_side) × (z.h ≤ most_side)

-- the bar has at most as many rows as a picture of a text, and leaves a row of the screen below it
abbrev pub IsBar : ℕ → ℕ → Type 0
IsBar rows height = (rows ≤ most_picture_height) × (rows < height)

-- the screen is 1..=4096 by 1..=4096
abbrev pub IsScreenSize : ℕ → ℕ → Type 0
IsScreenSize width height = (1 ≤ width) × (width ≤ most_width) × (1 ≤ height)
    × (height ≤ most_height)

-- What holds of every stack: no two views have one slot, nor the same session and handle, and along
-- the list the layers never fall; every number is in its range.
pub record IsStack (s : StackModel) : Type 0 where
  pub slots : NoPair same_slot s.views
  pub names : NoPair same_name s.views
  pub layered : NoPair (falls (slot_view_layer s.layers)) s.views
  pub seats : All (IsSlotView s.most (length s.sizes)) s.views
  pub sizes : All IsBufferSize s.sizes
  pub layers : All (λ l. l ≤ 7) s.layers
  pub sessions : (1 ≤ length s.sizes) × (length s.sizes ≤ most_sessions)
      × (length s.layers ≡ length s.sizes)
  pub screen : IsScreenSize s.width s.height
  pub bar : IsBar s.bar s.height
  pub room : s.most ≤ most_slots
