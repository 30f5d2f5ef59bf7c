use Rattle.nit_stack.proofs.Lemmas.{arith, few}
use Rattle.nit_stack.proofs.stack.Stack.len.Goals as goal

pub overflow_cast-result : goal.overflow_cast-result
overflow_cast-result c =
    let m = c.self.invariant.standing.room in
    omega (arith, few c.self.inside c.self.invariant.standing, m, c.len.ensures, c.self.inside.order.ok.0)

pub returns-clause-most : goal.returns-clause-most
returns-clause-most c =
    rw (← c.self.view_is) (omega (arith, few c.self.inside c.self.invariant.standing, c.len.ensures))
