use Rattle.std.proofs.Common.{◌+◌}
use Rattle.nit_stack.proofs.Lemmas.{ref_behind, ref_stands}
use Rattle.nit_stack.proofs.stack.Stack.next.Goals as goal

pub returns-clause-place : goal.returns-clause-place
returns-clause-place c i =
    let result = rw (c.as_slice-2.ensures.value, c.place_of-place.ensures.place, c.as_slice.ensures.value) at
    c.ref_at.ensures in
    rw (← c.self.view_is, result) (ref_behind c.self.inside.slots.items c.self.inside.order.items c.args.v i
    c.self.invariant.standing.slots)

pub returns-clause-stands : goal.returns-clause-stands
returns-clause-stands c =
    let result = rw c.as_slice-2.ensures.value at c.ref_at.ensures in
    rw (← c.self.view_is) (ref_stands c.self.inside.slots.items c.self.inside.order.items (c.place_of-place.result + 1)
    c.ref_at.result result)
