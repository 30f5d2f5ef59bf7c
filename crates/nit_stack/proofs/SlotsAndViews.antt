-- Views in their slots.
use Rattle.nit_stack.proofs.Basics.{All, All-cons, All-filter, AllByRecursion, Bool, HasLayer}
use Rattle.nit_stack.proofs.Basics.{IfSome, IsSlotView, IsStack, List, NoPair, None, Option, Point}
use Rattle.nit_stack.proofs.Basics.{Size, SlotView, Some, StackModel, View, ViewRef, [], arith}
use Rattle.nit_stack.proofs.Basics.{black_or_word, changed, count_by-le-length, covers, eqb}
use Rattle.nit_stack.proofs.Basics.{eqb-true, false, find, fresh, get_or-set_other, get_or-set_same}
use Rattle.nit_stack.proofs.Basics.{get_or_default, has_slot, is_slot, layer_in, layer_of, length}
use Rattle.nit_stack.proofs.Basics.{length-filter, length-le_from_distinct_below, length-set}
use Rattle.nit_stack.proofs.Basics.{list_any, map, moved, moved_above, nat_tests, ne_eqb, not}
use Rattle.nit_stack.proofs.Basics.{on_view, option_map, owner, owner_in, place_of, position_or_len}
use Rattle.nit_stack.proofs.Basics.{put_above, put_front, put_own_back, put_own_front, refl}
use Rattle.nit_stack.proofs.Basics.{same_name, same_slot, set, shown_index, slice_get}
use Rattle.nit_stack.proofs.Basics.{slice_get-map, slice_index_or, slot_view, slot_view_in}
use Rattle.nit_stack.proofs.Basics.{slot_view_layer, source, source_under, stack_model, suc, true}
use Rattle.nit_stack.proofs.Basics.{view_ref, without, zero}
use Rattle.std.proofs.Common.{ℕ, ◌+◌, ◌<◌, ◌==◌, ◌∷◌, ◌≡◌, ◌≤◌}
use Rattle.std.specs.List.{IsDistinct}
use Rattle.nit_stack.proofs.Lists.{All-unmap, All_found, find-map, found_fails, found_passes}
use Rattle.nit_stack.proofs.Lists.{found_some, map-map, map-put_above, map-put_back, map-put_front}
use Rattle.nit_stack.proofs.Lists.{map-without, moved_found, place_is}
use Rattle.nit_stack.specs.declared.stack.Stack.TheInside as stack

-- either number may come first
pub flip : (m n : ℕ) → (m == n) ≡ (n == m)
flip m n = grind (arith, nat_tests)

pub slot_both : (a b : SlotView) → same_slot a b ≡ same_slot b a
slot_both a b = flip b.slot a.slot

pub name_both : (a b : SlotView) → same_name a b ≡ same_name b a
name_both a b = rw (flip b.view.sid a.view.sid, flip b.view.handle a.view.handle) refl

-- the view of a slot that stands in the order
pub seat_found : (slots : List View) (k : ℕ) (ks : List ℕ) → has_slot k (map (slot_view slots) ks) ≡ true
    → slot_view_in k (map (slot_view slots) ks) ≡ Some (slot_view slots k)
seat_found slots k [] h = cc
seat_found slots k (j ∷ ks) h = grind (arith, nat_tests, seat_found slots k ks)

-- a view of a stack is in its range
pub seat_sound : (s : StackModel) (k : ℕ) (a : SlotView) → IsStack s → slot_view_in k s.views ≡ Some a
    → IsSlotView s.most (length s.sizes) a
seat_sound s k a h found = All_found (IsSlotView s.most (length s.sizes)) (is_slot k) s.views a h.seats found

apart : (slots : List View) (k : ℕ) (ks : List ℕ) → list_any (same_slot (slot_view slots k)) (map (slot_view slots) ks)
    ≡ false → AllByRecursion (λ j. eqb k j ≡ false) ks
apart slots k [] h = tt
apart slots k (j ∷ ks) h = grind (arith, nat_tests, apart slots k ks)

distinct : (slots : List View) (ks : List ℕ) → NoPair same_slot (map (slot_view slots) ks) → IsDistinct eqb ks
unfolding IsDistinct
distinct slots [] h = tt
distinct slots (k ∷ ks) h = (apart slots k ks h.0, distinct slots ks h.1)

-- no more slots stand in the order than there are
pub counted : (slots : List View) (n : ℕ) (ks : List ℕ) → NoPair same_slot (map (slot_view slots) ks)
    → All (λ k. k < n) ks → length ks ≤ n
counted slots n ks h below = length-le_from_distinct_below ks n (distinct slots ks h)
    (λ q there. let f = found_some (eqb q) ks there in
    omega (arith, eqb-true q f.0 (found_passes (eqb q) ks f.0 f.1), All_found (λ k. k < n) (eqb q) ks f.0 below f.1))

-- the slots of the order are there, and so are their sessions' layers
pub all_kept : (slots : List View) (layers : List ℕ) (sessions : ℕ) (ks : List ℕ) → length layers ≡ sessions
    → All (IsSlotView (length slots) sessions) (map (slot_view slots) ks) → All (HasLayer slots layers) ks
all_kept slots layers sessions ks n h k d l =
    let at = All-unmap (IsSlotView (length slots) sessions) (slot_view slots) ks h k d l in
    (at.slot, omega (arith, at.session))

pub all_below : (slots : List View) (most sessions : ℕ) (ks : List ℕ)
    → All (IsSlotView most sessions) (map (slot_view slots) ks) → All (λ k. k < most) ks
all_below slots most sessions ks h k d l = (All-unmap (IsSlotView most sessions) (slot_view slots) ks h k d l).slot

-- a change of one slot
pub unchanged : (slots : List View) (k : ℕ) (v : View) (ks : List ℕ) → has_slot k (map (slot_view slots) ks) ≡ false
    → map (slot_view (set slots k v)) ks ≡ map (slot_view slots) ks
unchanged slots k v [] h = refl
unchanged slots k v (j ∷ ks) h =
    grind (arith, nat_tests, get_or-set_other slots k j v (fresh 0 0), unchanged slots k v ks)

pub changed_is : (slots : List View) (k : ℕ) (change : View → View) (v : View) (ks : List ℕ) → k < length slots
    → v ≡ slice_index_or slots k v → map (slot_view (set slots k (change v))) ks
    ≡ changed (is_slot k) (on_view change) (map (slot_view slots) ks)
changed_is slots k change v [] l is = refl
changed_is slots k change v (j ∷ ks) l is =
    let old = get_or_default slots k v (fresh 0 0) l in
    grind (arith, nat_tests, old, get_or-set_same, get_or-set_other, changed_is slots k change v ks)

pub moved_is : (slots : List View) (k : ℕ) (ks : List ℕ) (put : List ℕ → List ℕ) (put_seat : SlotView → List SlotView
    → List SlotView) → has_slot k (map (slot_view slots) ks) ≡ true
    → ((xs : List ℕ) → map (slot_view slots) (put xs) ≡ put_seat (slot_view slots k) (map (slot_view slots) xs))
    → map (slot_view slots) (put (without (λ j. j == k) ks)) ≡ moved (is_slot k) put_seat (map (slot_view slots) ks)
moved_is slots k ks put put_seat there along =
    let again = moved_found (is_slot k) put_seat (map (slot_view slots) ks) _ (seat_found slots k ks there) in
    rw (along (without (λ j. j == k) ks), map-without (slot_view slots) (is_slot k) ks, again) refl

-- what contracts see of a stack, by its fields
abbrev pub model : stack.Inside → StackModel
model s = stack_model s.order.items s.slots.items s.sizes.items s.layers.items s.width s.height s.bar

-- a slot of the order, whose session has a layer
pub slot_kept : (s : stack.Inside) (k : ℕ) → IsStack (model s) → has_slot k (model s).views ≡ true
    → HasLayer s.slots.items s.layers.items k
slot_kept s k is there =
    let at = seat_sound (model s) k _ is (seat_found s.slots.items k s.order.items there) in
    (at.slot, omega (arith, at.session, is.sessions.2))

pub others_kept : (s : stack.Inside) (k : ℕ) → IsStack (model s)
    → All (HasLayer s.slots.items s.layers.items) (without (λ j. j == k) s.order.items)
others_kept s k is =
    All-filter (λ j. not (j == k)) (HasLayer s.slots.items s.layers.items) s.order.items
    (all_kept s.slots.items s.layers.items _ s.order.items is.sessions.2 is.seats)

-- no more views than slots
pub few : (s : stack.Inside) → IsStack (model s) → length s.order.items ≤ length s.slots.items
few s is =
    counted s.slots.items _ s.order.items is.slots
    (all_below s.slots.items (model s).most (length (model s).sizes) s.order.items is.seats)

-- there is room for a slot that does not stand in the order
pub room_for : (s : stack.Inside) (k : ℕ) → IsStack (model s) → k < length s.slots.items
    → has_slot k (model s).views ≡ false → length s.order.items < length s.slots.items
room_for s k is below free =
    let all = all_below s.slots.items (model s).most (length (model s).sizes) s.order.items is.seats in
    let more = All-cons (λ j. j < length s.slots.items) k s.order.items below all in
    omega (arith, counted s.slots.items (model s).most (k ∷ s.order.items) (free, is.slots) more)

-- and there is when a slot was taken out
fewer : (slots : List View) (k : ℕ) (order : List ℕ) → has_slot k (map (slot_view slots) order) ≡ true
    → length (without (λ j. j == k) order) < length order
fewer slots k [] there = cc
fewer slots k (j ∷ order) there =
    let others = λ (i : ℕ). not (i == k) in
    grind (arith, length-filter others order, count_by-le-length others order, fewer slots k order)

pub room_again : (s : stack.Inside) (k : ℕ) → IsStack (model s) → has_slot k (model s).views ≡ true
    → length (without (λ j. j == k) s.order.items) < length s.slots.items
room_again s k is there = omega (arith, few s is, fewer s.slots.items k s.order.items there)

-- the slots while a new view is written to a free one
pub written_kept : (s : stack.Inside) (k : ℕ) (v : View) → IsStack (model s) → has_slot k (model s).views ≡ false
    → All (HasLayer (set s.slots.items k v) s.layers.items) s.order.items
written_kept s k v is free =
    let same = unchanged s.slots.items k v s.order.items free in
    all_kept (set s.slots.items k v) s.layers.items _ s.order.items is.sessions.2
    (rw (← same, ← length-set s.slots.items k v) at is.seats)

-- the views when one was changed in its slot
pub rewritten : (s : stack.Inside) (k : ℕ) (change : View → View) (v : View) → IsStack (model s)
    → has_slot k (model s).views ≡ true → v ≡ slice_index_or s.slots.items k v
    → map (slot_view (set s.slots.items k (change v))) s.order.items
    ≡ changed (is_slot k) (on_view change) (model s).views
rewritten s k change v is there at =
    changed_is s.slots.items k change v s.order.items (slot_kept s k is there).0 at

-- the views after each other call
pub pushed : (s : stack.Inside) (k : ℕ) (v : View) → k < length s.slots.items → has_slot k (model s).views ≡ false
    → map (slot_view (set s.slots.items k v))
    (put_own_front (layer_in (set s.slots.items k v) s.layers.items) k s.order.items)
    ≡ put_front (slot_view_layer s.layers.items) (layer_of s.layers.items v.sid) (record { slot = k; view = v })
    (model s).views
pushed s k v below free =
    let others = unchanged s.slots.items k v s.order.items free in
    let own = get_or-set_same s.slots.items k v (fresh 0 0) below in
    rw (map-put_front (slot_view (set s.slots.items k v)) (slot_view_layer s.layers.items), others, own) refl

pub fronted : (s : stack.Inside) (k : ℕ) → has_slot k (model s).views ≡ true → map (slot_view s.slots.items)
    (put_own_front (layer_in s.slots.items s.layers.items) k (without (λ j. j == k) s.order.items))
    ≡ moved (is_slot k) (put_own_front (slot_view_layer s.layers.items)) (model s).views
fronted s k there =
    let layer = slot_view_layer s.layers.items in
    moved_is s.slots.items k s.order.items (put_own_front (layer_in s.slots.items s.layers.items) k)
    (put_own_front layer) there (map-put_front (slot_view s.slots.items) layer _ k)

pub backed : (s : stack.Inside) (k : ℕ) → has_slot k (model s).views ≡ true → map (slot_view s.slots.items)
    (put_own_back (layer_in s.slots.items s.layers.items) k (without (λ j. j == k) s.order.items))
    ≡ moved (is_slot k) (put_own_back (slot_view_layer s.layers.items)) (model s).views
backed s k there =
    let layer = slot_view_layer s.layers.items in
    moved_is s.slots.items k s.order.items (put_own_back (layer_in s.slots.items s.layers.items) k) (put_own_back layer)
    there (map-put_back (slot_view s.slots.items) layer _ k)

pub raised : (s : stack.Inside) (k n : ℕ) → has_slot k (model s).views ≡ true → (k ≡ n → ⊥)
    → map (slot_view s.slots.items) (put_above (λ j. j == n) k (without (λ j. j == k) s.order.items))
    ≡ moved_above k n (model s).views
raised s k n there other =
    rw (ne_eqb k n other) (moved_is s.slots.items k s.order.items (put_above (λ j. j == n) k) (put_above (is_slot n))
    there (map-put_above (slot_view s.slots.items) (is_slot n) k))

-- places
pub ref_at : (slots : List View) (order : List ℕ) (i : ℕ) → slice_get (map view_ref (map (slot_view slots) order)) i
    ≡ option_map (λ k. record { 0 = k }) (slice_get order i)
ref_at slots order i = rw (map-map view_ref (slot_view slots) order) (slice_get-map (λ k. record { 0 = k }) order i)

pub there_at : (slots : List View) (order : List ℕ) (i k : ℕ) → slice_get order i ≡ Some k
    → has_slot k (map (slot_view slots) order) ≡ true
there_at slots [] i k h = cc
there_at slots (j ∷ order) zero k h = grind (arith, nat_tests)
there_at slots (j ∷ order) (suc i) k h = grind (arith, there_at slots order i k)

pub ref_slot : (slots : List View) (order : List ℕ) (i : ℕ) (v : ViewRef)
    → slice_get (map view_ref (map (slot_view slots) order)) i ≡ Some v → slice_get order i ≡ Some v.0
ref_slot slots order i v h = grind (arith, ref_at slots order i)

-- the view in a slot, and at a place
pub view_in : (s : stack.Inside) (k : ℕ) (v : View) → IsStack (model s) → has_slot k (model s).views ≡ true
    → v ≡ slice_index_or s.slots.items k v → slot_view_in k (model s).views ≡ Some (record { slot = k; view = v })
view_in s k v is there at =
    let seat = seat_found s.slots.items k s.order.items there in
    rw (seat, at, get_or_default s.slots.items k v (fresh 0 0) (slot_kept s k is there).0) refl

pub view_at : (s : stack.Inside) (i : ℕ) (r : ViewRef) (v : View) → IsStack (model s)
    → has_slot r.0 (model s).views ≡ true → v ≡ slice_index_or s.slots.items r.0 v
    → slice_get (map view_ref (model s).views) i ≡ Some r
    → slice_get (model s).views i ≡ Some (record { slot = r.0; view = v })
view_at s i r v is there at place =
    let seat = ref_slot s.slots.items s.order.items i r place in
    rw (slice_get-map, seat, at, get_or_default s.slots.items r.0 v (fresh 0 0) (slot_kept s r.0 is there).0) refl

-- the place of a view among all is that of its slot in the order
pub place_in_order : (slots : List View) (order : List ℕ) (k : ℕ) → position_or_len (λ j. j == k) order
    ≡ place_of k (map (slot_view slots) order)
place_in_order slots [] k = refl
place_in_order slots (j ∷ order) k = rw (place_in_order slots order k) refl

-- the place behind a slot's own
pub ref_behind : (slots : List View) (order : List ℕ) (v : ViewRef) (i : ℕ)
    → NoPair same_slot (map (slot_view slots) order) → slice_get (map view_ref (map (slot_view slots) order)) i ≡ Some v
    → option_map (λ k. record { 0 = k }) (slice_get order (position_or_len (λ j. j == v.0) order + 1))
    ≡ slice_get (map view_ref (map (slot_view slots) order)) (i + 1)
ref_behind slots order v i h at =
    let seat : slice_get (map (slot_view slots) order) i ≡ Some (slot_view slots v.0) =
    rw (slice_get-map (slot_view slots) order i, ref_slot slots order i v at) refl in
    let place = place_is (map (slot_view slots) order) i (slot_view slots v.0) h seat in
    rw (place_in_order slots order v.0, place, ref_at slots order (i + 1)) refl

pub ref_stands : (slots : List View) (order : List ℕ) (i : ℕ) (r : Option ViewRef)
    → r ≡ option_map (λ k. record { 0 = k }) (slice_get order i)
    → IfSome r (λ v. has_slot v.0 (map (slot_view slots) order) ≡ true)
ref_stands slots order i None e = tt
ref_stands slots order i (Some v) e = there_at slots order i v.0 (grind arith)

pub map_twice : {A B C : Type 0} (g : B → C) (f : A → B) (o : Option A)
    → option_map g (option_map f o) ≡ option_map (λ x. g (f x)) o
map_twice g f None = refl
map_twice g f (Some x) = refl

-- the owner among the views alone
pub owner_of_views : (rows : ℕ) (views : List SlotView) (p : Point) → owner rows (map (λ s. s.view) views) p
    ≡ option_map (λ s. s.view) (owner_in (λ s. s.view) rows views p)
owner_of_views rows views p = grind (arith, find-map (λ (v : View). covers v.rect p) (λ (s : SlotView). s.view) views)

-- a view that is found is the one in its slot
pub found_in_slot : (q : SlotView → Bool) (views : List SlotView) (s : SlotView) → NoPair same_slot views
    → find q views ≡ Some s → slot_view_in s.slot views ≡ Some s
found_in_slot q [] s h f = cc
found_in_slot q (x ∷ views) s h f =
    grind (arith, nat_tests, found_fails q (same_slot x) views s, found_in_slot q views s)

-- the owner is the view of its slot
pub owner_is : (rows : ℕ) (views : List SlotView) (p : Point) (v : ViewRef) (view : View) → NoPair same_slot views
    → Some v ≡ option_map view_ref (owner_in (λ s. s.view) rows views p)
    → slot_view_in v.0 views ≡ Some (record { slot = v.0; view = view })
    → owner_in (λ s. s.view) rows views p ≡ Some (record { slot = v.0; view = view })
owner_is rows views p v view h owned at =
    let covering = λ (s : SlotView). covers s.view.rect p in
    grind (arith, owned, at, found_in_slot covering views)

-- the source of a pixel whose owner is known
pub source_is : (sizes : ℕ → Size) (rows : ℕ) (views : List SlotView) (p : Point) (v : ViewRef) (view : View)
    → NoPair same_slot views → Some v ≡ option_map view_ref (owner_in (λ s. s.view) rows views p)
    → slot_view_in v.0 views ≡ Some (record { slot = v.0; view = view })
    → source sizes rows (map (λ s. s.view) views) p ≡ black_or_word view.sid (shown_index (sizes view.sid) view p)
source_is sizes rows views p v view h owned at =
    rw (owner_of_views rows views p, owner_is rows views p v view h owned at) refl

pub source_bare : (sizes : ℕ → Size) (rows : ℕ) (views : List SlotView) (p : Point)
    → None ≡ option_map view_ref (owner_in (λ s. s.view) rows views p) → source sizes rows (map (λ s. s.view) views) p
    ≡ source_under sizes p None
source_bare sizes rows views p owned = grind (arith, owned, owner_of_views rows views p)
