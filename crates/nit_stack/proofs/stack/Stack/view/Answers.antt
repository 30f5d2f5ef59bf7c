use Rattle.nit_stack.proofs.Lemmas.{arith, slot_kept, view_at, view_in}
use Rattle.nit_stack.proofs.stack.Stack.view.Goals as goal

pub index-requires : goal.index-requires
index-requires c = grind (arith, slot_kept c.self.inside c.args.v.0 c.self.invariant.standing, c.self.inside.slots.ok.0)

pub returns-clause-value : goal.returns-clause-value
returns-clause-value c = grind (arith, view_in c.self.inside c.args.v.0 c.index.result.now c.self.invariant.standing)

pub returns-clause-place : goal.returns-clause-place
returns-clause-place c i = grind (arith, view_at c.self.inside i c.args.v c.index.result.now c.self.invariant.standing)
