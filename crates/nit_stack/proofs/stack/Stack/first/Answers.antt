use Rattle.nit_stack.proofs.Lemmas.{ref_at, ref_stands}
use Rattle.nit_stack.proofs.stack.Stack.first.Goals as goal

pub returns-clause-place : goal.returns-clause-place
returns-clause-place c = rw (← c.self.view_is, ref_at, ← c.as_slice.ensures.value) c.ref_at.ensures

pub returns-clause-stands : goal.returns-clause-stands
returns-clause-stands c =
    let result = rw c.as_slice.ensures.value at c.ref_at.ensures in
    rw (← c.self.view_is) (ref_stands c.self.inside.slots.items c.self.inside.order.items 0 c.ref_at.result result)
