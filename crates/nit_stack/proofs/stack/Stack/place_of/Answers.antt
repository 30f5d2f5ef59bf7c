use Rattle.nit_stack.proofs.Lemmas.{arith, few, model, place_found, place_in_order, place_within}
use Rattle.nit_stack.proofs.stack.Stack.place_of.Goals as goal

pub overflow_cast-result : goal.overflow_cast-result
overflow_cast-result c =
    let m = c.self.invariant.standing.room in
    let within = rw c.as_slice.ensures.value at c.place_of.ensures.within in
    omega (arith, few c.self.inside c.self.invariant.standing, m, within)

pub returns-clause-place : goal.returns-clause-place
returns-clause-place c = grind (arith, place_in_order c.self.inside.slots.items c.self.inside.order.items c.args.v.0)

pub returns-clause-stands : goal.returns-clause-stands
returns-clause-stands c =
    let place = place_in_order c.self.inside.slots.items c.self.inside.order.items c.args.v.0 in
    grind (arith, place, place_within c.args.v.0 (model c.self.inside).views)

pub returns-clause-view : goal.returns-clause-view
returns-clause-view c =
    let place = place_in_order c.self.inside.slots.items c.self.inside.order.items c.args.v.0 in
    grind (arith, place, place_found (model c.self.inside).views c.args.v)
