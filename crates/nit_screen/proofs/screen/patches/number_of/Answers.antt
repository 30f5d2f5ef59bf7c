use Rattle.nit_screen.proofs.Lemmas.{arith, seat_slot}
use Rattle.nit_screen.proofs.screen.patches.number_of.Goals as goal

pub overflow_cast-result : goal.overflow_cast-result
overflow_cast-result c =
    let stack = c.len-standing.ensures.standing in
    omega (arith, stack.room, seat_slot c.args.stack.now c.args.v.0 stack c.requires)

pub returns-clause-some : goal.returns-clause-some
returns-clause-some c =
    let stack = c.len-standing.ensures.standing in
    omega (arith, stack.room, seat_slot c.args.stack.now c.args.v.0 stack c.requires)
