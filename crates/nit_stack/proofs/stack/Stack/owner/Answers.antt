use Rattle.std.proofs.Common.{arith, false, ◌≡◌}
use Rattle.nit_stack.proofs.Lemmas.{SlotView, all_below, covers, find-map, find_at, in_bar, ints}
use Rattle.nit_stack.proofs.Lemmas.{ref_stands, slot_view}
use Rattle.nit_stack.proofs.stack.Stack.owner.Goals as goal

pub covering-requires : goal.covering-requires
covering-requires c =
    rw (c.as_slice.ensures.value, c.as_slice-2.ensures.value)
    (all_below c.self.inside.slots.items _ _ c.self.inside.order.items c.self.invariant.standing.seats)

pub returns-clause-owner : goal.returns-clause-owner
returns-clause-owner c =
    let below : in_bar c.self.inside.bar c.args.p ≡ false = grind (arith, ints) in
    let found = find-map (λ (s : SlotView). covers s.view.rect c.args.p) (slot_view c.self.inside.slots.items)
    c.self.inside.order.items in
    rw (← c.self.view_is, c.covering.ensures, c.as_slice.ensures.value, c.as_slice-2.ensures.value)
    (grind (arith, below, found))

pub returns-clause-stands : goal.returns-clause-stands
returns-clause-stands c =
    let found = rw (c.as_slice.ensures.value, c.as_slice-2.ensures.value, find_at) at c.covering.ensures in
    rw (← c.self.view_is) (ref_stands c.self.inside.slots.items c.self.inside.order.items _ c.covering.result found)
