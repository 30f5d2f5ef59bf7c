use Rattle.std.proofs.Common.{List, Some, [], arith, map, slice_index_or, suc, sym, zero, ℕ, ◌∷◌}
use Rattle.std.proofs.Common.{◌≡◌}
use Rattle.nit_place.proofs.Lemmas.{SlotView, ViewRef, fresh_in, is_slot, nat_tests}
use Rattle.nit_place.proofs.Lemmas.{position_or_len_is, slice_get, view_ref}
use Rattle.nit_place.proofs.place.views_in_front.Goals as goal

-- the slot at a place
slot_at : (views : List SlotView) (i : ℕ) (r : ViewRef) (d : SlotView) → slice_get (map view_ref views) i ≡ Some r
    → (slice_index_or views i d).slot ≡ r.0
slot_at [] i r d h = cc
slot_at (s ∷ views) zero r d h = grind arith
slot_at (s ∷ views) (suc i) r d h = slot_at views i r d h

pub returns-then-at-v-clause-count : goal.returns-then-at-v-clause-count
returns-then-at-v-clause-count c =
    let same = slot_at c.args.stack.now.views c.views.i c.at.result (fresh_in 0 0 0) c.at.ensures.place in
    sym (position_or_len_is (is_slot c.args.v.0) c.args.stack.now.views c.views.i (fresh_in 0 0 0) (omega arith)
    (λ k lt. c.views.invariant k _ lt) (λ within. grind (arith, nat_tests)))

pub views-preserved : goal.views-preserved
views-preserved c =
    λ k d lt.
    let same = slot_at c.args.stack.now.views c.views.i c.at.result d c.at.ensures.place in
    grind (arith, nat_tests, c.views.invariant k d)

pub returns-clause-count : goal.returns-clause-count
returns-clause-count c =
    sym (position_or_len_is (is_slot c.args.v.0) c.args.stack.now.views c.len-count.result (fresh_in 0 0 0)
    (omega arith) (λ k lt. c.views.invariant k _ (omega arith)) (λ within. absurd (omega arith)))
