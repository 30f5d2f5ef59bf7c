-- What a stack says of the view in a slot.
use Rattle.nit_stack.proofs.ForCallers.{found_passes, found_some}
use Rattle.nit_stack.specs.Stack.{place_of}
use Rattle.std.proofs.Common.{List, Some, ap, arith, map, sym, true, ℕ, ◌∙◌, ◌≡◌}
use Rattle.std.proofs.lemmas.List.Folds.{find_at}
use Rattle.std.proofs.lemmas.Option.{slice_get-map}
use Rattle.nit_overlay.proofs.Basics.{All_found, IsPlaced, LetteredLook, SlotView, View, ViewRef, is_slot}
use Rattle.nit_overlay.proofs.Basics.{label_place_of, nat_tests, option_map, scenery, slice_get, slot_view_in, view_ref}
use Rattle.nit_overlay.specs.Below.{has_slot}
use Rattle.nit_overlay.specs.Look.{IsLook, draws_labels, pixel_at}
use Rattle.nit_overlay.specs.Owner.{StandsIn}

-- a view stands in a slot that has one
pub standing : (views : List SlotView) (v : ViewRef) → has_slot v.0 views ≡ true
    → (view : View) × (slot_view_in v.0 views ≡ Some (record { slot = v.0; view = view }))
standing views v has =
    let found = found_some (is_slot v.0) views has in
    let passes = found_passes (is_slot v.0) views found.0 found.1 in
    let slot : found.0.slot ≡ v.0 = grind (arith, nat_tests, passes) in
    (found.0.view, found.1 ∙ ap (λ (k : ℕ). Some (record { slot = k; view = found.0.view })) slot)

-- where labels are drawn, its slot has the place of its label
pub placed_in : (l : LetteredLook) (v : ViewRef) (view : View) → IsLook l → draws_labels l.look.mode ≡ true
    → StandsIn l v view
    → slice_get l.look.places.now v.0 ≡ Some (option_map pixel_at (label_place_of (scenery l) view))
placed_in l v view look draws at =
    All_found (IsPlaced l) (is_slot v.0) l.look.stack.now.views (record { slot = v.0; view = view }) (look.places draws) at

-- what is told of the view at its place is told of it
pub told_in : (views : List SlotView) (v : ViewRef) (view : View) (session : ℕ)
    → slot_view_in v.0 views ≡ Some (record { slot = v.0; view = view })
    → ((i : ℕ) → slice_get (map view_ref views) i ≡ Some v
    → option_map (λ (s : SlotView). s.view.sid) (slice_get views i) ≡ Some session)
    → session ≡ view.sid
told_in views v view session at told =
    let here = sym (find_at (is_slot v.0) views) ∙ at in
    let is = told (place_of v.0 views) (slice_get-map view_ref views _ ∙ ap (option_map view_ref) here) in
    grind (arith, here, is)
