-- What holds of every stack stays so at each change.
use Rattle.nit_stack.proofs.Basics.{All, All-filter, All-map, All-set, IsBufferSize, IsSlotView}
use Rattle.nit_stack.proofs.Basics.{IsStack, List, NoPair, Size, SlotView, Some, StackModel, View}
use Rattle.nit_stack.proofs.Basics.{[], ap, arith, changed, cond_both, empty_stack, falls, false}
use Rattle.nit_stack.proofs.Basics.{fresh, get_or, get_or-set_other, has_slot, ints, is_named}
use Rattle.nit_stack.proofs.Basics.{is_of_session, is_slot, layer_of, length, length-set, list_any}
use Rattle.nit_stack.proofs.Basics.{map, moved, moved_above, nat_tests, no_size, on_view, put_above}
use Rattle.nit_stack.proofs.Basics.{put_front, put_own_back, put_own_front, refl, replicate}
use Rattle.nit_stack.proofs.Basics.{same_name, same_slot, set, size, slot_layer, slot_view_in}
use Rattle.nit_stack.proofs.Basics.{slot_view_layer, stack_model, suc, sym, true, without, zero}
use Rattle.nit_stack.proofs.Basics.{◌∙◌}
use Rattle.std.proofs.Common.{if◌then◌else◌, ℕ, ◌<◌, ◌==◌, ◌∷◌, ◌≡◌, ◌≤◌}
use Rattle.nit_stack.proofs.Lists.{All-insert, NoPair-above, NoPair-back, NoPair-filter}
use Rattle.nit_stack.proofs.Lists.{NoPair-front, NoPair-map, NoPair-put, Put, Put-above, Put-back}
use Rattle.nit_stack.proofs.Lists.{Put-front, find-without, found_some, list_any-map, moved_found}
use Rattle.nit_stack.proofs.Lists.{others_apart}
use Rattle.nit_stack.proofs.SlotsAndViews.{name_both, seat_sound, slot_both}

kept : (s : StackModel) (views : List SlotView) → IsStack s → NoPair same_slot views → NoPair same_name views
    → NoPair (falls (slot_view_layer s.layers)) views → All (IsSlotView s.most (length s.sizes)) views
    → IsStack (record s { views = views })
kept s views h slots names layered seats = assumption h

-- a view that no other view is like is put in
kept_put : (s : StackModel) (a : SlotView) (others views : List SlotView) → IsStack (record s { views = others })
    → Put a others views → list_any (same_slot a) others ≡ false → list_any (same_name a) others ≡ false
    → NoPair (falls (slot_view_layer s.layers)) views → IsSlotView s.most (length s.sizes) a
    → IsStack (record s { views = views })
kept_put s a others views h put slot name layered it =
    let sound = IsSlotView s.most (length s.sizes) in
    let seats : All sound views = rw put.is (All-insert sound others put.at a it h.seats) in
    let slots = NoPair-put same_slot slot_both a others views put slot h.slots in
    let names = NoPair-put same_name name_both a others views put name h.names in
    assumption (slots, names, h)

pub keeps_push : (s : StackModel) (k sid handle : ℕ) → IsStack s → k < s.most → has_slot k s.views ≡ false
    → sid < length s.sizes → list_any (is_named sid handle) s.views ≡ false
    → IsStack (record s {
      views =
          put_front (slot_view_layer s.layers) (layer_of s.layers sid) (record { slot = k; view = fresh sid handle })
          s.views;
    })
keeps_push s k sid handle h below free session named =
    let a : SlotView = record { slot = k; view = fresh sid handle } in
    let layer = slot_view_layer s.layers in
    kept_put s a s.views _ h (Put-front layer (layer a) a s.views) free named (NoPair-front layer a s.views h.layered)
    (grind (arith, ints))

pub keeps_remove : (s : StackModel) (k : ℕ) → IsStack s → IsStack (record s { views = without (is_slot k) s.views })
keeps_remove s k h =
    kept s _ h (NoPair-filter _ _ _ h.slots) (NoPair-filter _ _ _ h.names) (NoPair-filter _ _ _ h.layered)
    (All-filter _ (IsSlotView s.most (length s.sizes)) _ h.seats)

keeps_moved : (s : StackModel) (k : ℕ) (put : SlotView → List SlotView → List SlotView) → IsStack s
    → has_slot k s.views ≡ true → ((a : SlotView) (xs : List SlotView) → Put a xs (put a xs))
    → ((a : SlotView) → slot_view_in k s.views ≡ Some a
    → NoPair (falls (slot_view_layer s.layers)) (without (is_slot k) s.views)
    → NoPair (falls (slot_view_layer s.layers)) (put a (without (is_slot k) s.views)))
    → IsStack (record s { views = moved (is_slot k) put s.views })
keeps_moved s k put h there where' layered =
    let f = found_some (is_slot k) s.views there in
    let less = keeps_remove s k h in
    rw (moved_found (is_slot k) put s.views f.0 f.1)
    (kept_put s f.0 (without (is_slot k) s.views) _ less (where' f.0 _)
    (others_apart same_slot slot_both (is_slot k) s.views f.0 h.slots f.1)
    (others_apart same_name name_both (is_slot k) s.views f.0 h.names f.1) (layered f.0 f.1 less.layered)
    (seat_sound s k f.0 h f.1))

pub keeps_front : (s : StackModel) (k : ℕ) → IsStack s → has_slot k s.views ≡ true
    → IsStack (record s { views = moved (is_slot k) (put_own_front (slot_view_layer s.layers)) s.views })
keeps_front s k h there =
    let layer = slot_view_layer s.layers in
    keeps_moved s k (put_own_front layer) h there (λ a. Put-front layer (layer a) a)
    (λ a e. NoPair-front layer a (without (is_slot k) s.views))

pub keeps_back : (s : StackModel) (k : ℕ) → IsStack s → has_slot k s.views ≡ true
    → IsStack (record s { views = moved (is_slot k) (put_own_back (slot_view_layer s.layers)) s.views })
keeps_back s k h there =
    let layer = slot_view_layer s.layers in
    keeps_moved s k (put_own_back layer) h there (λ a. Put-back layer (layer a) a)
    (λ a e. NoPair-back layer a (without (is_slot k) s.views))

pub keeps_above : (s : StackModel) (k n : ℕ) → IsStack s → has_slot k s.views ≡ true → has_slot n s.views ≡ true
    → slot_layer s k ≡ slot_layer s n → IsStack (record s { views = moved_above k n s.views })
keeps_above s k n h there behind level =
    cond_both (k == n) s.views _ (λ views. IsStack (record s { views = views })) (λ e. h)
    (λ other. let g = found_some (is_slot n) s.views behind in
    let found = find-without (is_slot n) (is_slot k) (λ x t. grind (arith, nat_tests)) s.views ∙ g.1 in
    keeps_moved s k (put_above (is_slot n)) h there (Put-above (is_slot n))
    (λ a f. let both = rw (f, g.1) at level in
    NoPair-above (slot_view_layer s.layers) (is_slot n) a g.0 (without (is_slot k) s.views) found (cc)))

pub keeps_changed : (s : StackModel) (k : ℕ) (change : View → View) → IsStack s
    → ((v : View) → ((change v).sid ≡ v.sid) × ((change v).handle ≡ v.handle))
    → ((a : SlotView) → IsSlotView s.most (length s.sizes) a → IsSlotView s.most (length s.sizes) (on_view change a))
    → IsStack (record s { views = changed (is_slot k) (on_view change) s.views })
keeps_changed s k change h same sound =
    let now = λ (x : SlotView). if is_slot k x then on_view change x else x in
    let it = IsSlotView s.most (length s.sizes) in
    kept s _ h (NoPair-map same_slot same_slot now (λ a b. grind arith) s.views h.slots)
    (NoPair-map same_name same_name now (λ a b. grind (arith, same a.view, same b.view)) s.views h.names)
    (NoPair-map (falls (slot_view_layer s.layers)) (falls (slot_view_layer s.layers)) now
    (λ a b. grind (arith, same a.view, same b.view)) s.views h.layered)
    (All-map it now s.views (λ i d l. cond_both (is_slot k (get_or s.views i d)) _ _ it (λ e. sound _ (h.seats i d l))
    (λ e. h.seats i d l)))

pub keeps_size : (s : StackModel) (sid : ℕ) (z : Size) → IsStack s → IsBufferSize z
    → IsStack (record s { sizes = set s.sizes sid z })
keeps_size s sid z h fits =
    let n = length-set s.sizes sid z in
    assumption (rw (← n) at h.seats, All-set IsBufferSize s.sizes sid z fits h.sizes, rw (← n) at h.sessions, h)

-- the layers of views of other sessions stay
same_layers : (layers : List ℕ) (sid layer : ℕ) (xs : List SlotView) → list_any (is_of_session sid) xs ≡ false
    → map (slot_view_layer (set layers sid layer)) xs ≡ map (slot_view_layer layers) xs
same_layers layers sid layer [] h = refl
same_layers layers sid layer (x ∷ xs) h =
    grind (arith, nat_tests, get_or-set_other layers sid x.view.sid layer 0, same_layers layers sid layer xs)

from_numbers : (f : SlotView → ℕ) (xs : List SlotView) → NoPair (falls (λ (n : ℕ). n)) (map f xs) → NoPair (falls f) xs
from_numbers f [] h = tt
from_numbers f (x ∷ xs) h = (sym (list_any-map (falls (λ (n : ℕ). n) (f x)) f xs) ∙ h.0, from_numbers f xs h.1)

pub keeps_layer : (s : StackModel) (sid layer : ℕ) → IsStack s → list_any (is_of_session sid) s.views ≡ false
    → layer ≤ 7 → IsStack (record s { layers = set s.layers sid layer })
keeps_layer s sid layer h without_view low =
    let before = slot_view_layer s.layers in
    let now = slot_view_layer (set s.layers sid layer) in
    let numbers : NoPair (falls (λ n. n)) (map now s.views) =
    rw (same_layers s.layers sid layer s.views without_view)
    (NoPair-map (falls before) (falls (λ n. n)) before (λ a b. refl) s.views h.layered) in
    let each = All-set (λ l. l ≤ 7) s.layers sid layer low h.layers in
    assumption (from_numbers now s.views numbers, each, rw (← length-set s.layers sid layer) at h.sessions, h)

sizes_are : (n : ℕ) → map size (replicate n (0, 0)) ≡ replicate n no_size
sizes_are zero = refl
sizes_are (suc n) = ap (λ l. no_size ∷ l) (sizes_are n)

pub opened_as : (order : List ℕ) (slots : List View) (sizes : List (ℕ × ℕ)) (layers : List ℕ) (w h sessions most : ℕ)
    → order ≡ [] → length slots ≡ most → sizes ≡ replicate sessions (0, 0) → layers ≡ replicate sessions 0
    → stack_model order slots sizes layers w h 0 ≡ empty_stack w h sessions most
opened_as order slots sizes layers w h sessions most none room no_sizes no_layers =
    rw (none, room, no_sizes, no_layers, sizes_are sessions) refl
