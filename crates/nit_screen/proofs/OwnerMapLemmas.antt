-- A map of owners tells the places of labels.
use Rattle.std.proofs.Common.{List, None, Option, Some, ap, arith, false}
use Rattle.std.proofs.Common.{length, option_map, drop, refl, slice_get}
use Rattle.std.proofs.Common.{slice_index_or, take, ◌++◌, true, ℕ}
use Rattle.std.proofs.Common.{◌*◌, ◌+◌, ◌<◌, ◌==◌, ◌∙◌, ◌≡◌, ◌≤◌}
use Rattle.nit_screen.proofs.Basics.{All_found, AreLabelled, AreMeasured}
use Rattle.nit_screen.proofs.Basics.{OwnsArea, IsLeastPlace, IsMap, IsNumberOf}
use Rattle.nit_screen.proofs.Basics.{IsSlotView, IsStack, Point, SlotView, StackModel}
use Rattle.nit_screen.proofs.Basics.{View, agree_by}
use Rattle.nit_screen.proofs.Basics.{eqb-true, found_passes, found_some, get_or_from_slice_get}
use Rattle.nit_screen.proofs.Basics.{has_slot, is_owner, is_slot, is_view}
use Rattle.nit_screen.proofs.Basics.{label_scenery, label_width, mapped_place}
use Rattle.nit_screen.proofs.Basics.{name_of, nat_tests, no_slot, number_of}
use Rattle.nit_screen.proofs.Basics.{option_map_or, owner, owner_at, owner_named}
use Rattle.nit_screen.proofs.Basics.{picture_height, point, seat_here, seat_owner}
use Rattle.nit_screen.proofs.Basics.{slice_get-get_or, take-append_seam}
use Rattle.nit_screen.proofs.Basics.{IsLettering, Lettering}
use Rattle.nit_screen.proofs.Basics.{views_of}
use Rattle.nit_screen.proofs.FrameLabelLemmas.{number_fits, pixel_of}

-- ---- rooms

-- what was written into a list is all of it
pub written : {A : Type 0} (n : ℕ) (new old : List A) → length new ≡ n → take n (new ++ drop (length new) old) ≡ new
written n new old e = rw (← e) (take-append_seam new (drop (length new) old))

-- ---- slots

-- the slot of a view is one of the stack's
pub seat_slot : (s : StackModel) (k : ℕ) → IsStack s → has_slot k s.views ≡ true → k < s.most
seat_slot s k standing there =
    let found = found_some (is_slot k) s.views there in
    let seat = All_found (IsSlotView s.most (length s.sizes)) (is_slot k) s.views found.0 standing.seats found.1 in
    let same = eqb-true found.0.slot k (found_passes (is_slot k) s.views found.0 found.1) in
    rw same at seat.slot

-- ---- the places of labels

-- the number of a view is its slot's, and no view has that of pixels without an owner
numbered : (o : Option SlotView) (k : ℕ) → k < no_slot → (number_of o == k) ≡ option_map_or (is_slot k) o false
numbered None k lt = grind (arith, nat_tests)
numbered (Some v) k lt = refl

owner_is : (sid handle : ℕ) (o : Option View) → is_owner sid handle o ≡ option_map_or (is_view sid handle) o false
owner_is sid handle None = refl
owner_is sid handle (Some v) = refl

number_is : (s : StackModel) (map : List ℕ) (i : ℕ) (v : SlotView) → IsStack s → v.slot < no_slot
    → slice_get s.views i ≡ Some v → IsMap s map
    → IsNumberOf (owner_at map s.width) s.width s.height s.bar (views_of s.views) v.view v.slot
number_is s map i v standing slot at mapped x y left above =
    let p = point x y in
    let here = mapped (y * s.width + x) (number_fits s.width s.height x y left above)
    ∙ ap (λ q. number_of (seat_owner s.bar s.views q)) (pixel_of s.width x y left) in
    let seat = seat_here s.views i v standing.slots at in
    let mean = agree_by v.slot v.view.sid v.view.handle s.views (record {
      slots = standing.slots;
      names = standing.names;
      name = ap (option_map name_of) seat;
    }) in
    let named = owner_named v.slot v.view.sid v.view.handle s.bar s.views p mean in
    let one = numbered (seat_owner s.bar s.views p) v.slot slot in
    let two = owner_is v.view.sid v.view.handle (owner s.bar (views_of s.views) p) in
    rw here (grind (arith, nat_tests, one, named, two))

pub all_placed : (l : Lettering) → IsLettering l → (s : StackModel) (labels : List (List ℕ)) (map widths : List ℕ) (found : List (Option Point))
    → IsStack s → s.most ≤ length found → length found ≡ length widths → IsMap s map → AreMeasured l s labels widths
    → ((o : ℕ) → o < length widths → 1 ≤ slice_index_or widths o 0
    → IsLeastPlace (OwnsArea (owner_at map s.width) s.width s.height o (slice_index_or widths o 0)
    (picture_height l))
    (slice_index_or found o None))
    → AreLabelled l s labels found
all_placed l is s labels map widths found standing slots many mapped measured least = λ i d within.
    let v = slice_index_or s.views i d in
    let w = label_width (label_scenery l s labels) v.view in
    let at = slice_get-get_or s.views i d within in
    let slot : v.slot < s.most = (standing.seats i d within).slot in
    let wide : slice_index_or widths v.slot 0 ≡ w = get_or_from_slice_get widths v.slot _ 0 (measured i v at) in
    let here = rw wide at (least v.slot (omega arith) (omega arith)) in
    let place = mapped_place s.width s.height s.bar (views_of s.views) v.view v.slot w (picture_height l)
    (owner_at map s.width) (omega arith) (omega arith)
    (number_is s map i v standing (omega (arith, standing.room)) at mapped) (slice_index_or found v.slot None) here in
    slice_get-get_or found v.slot None (omega arith) ∙ ap (λ (q : Option Point). Some q) place
