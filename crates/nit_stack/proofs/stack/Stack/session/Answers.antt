use Rattle.nit_stack.proofs.Lemmas.{arith, slot_kept, view_at}
use Rattle.nit_stack.proofs.stack.Stack.session.Goals as goal

pub index-requires : goal.index-requires
index-requires c = grind (arith, slot_kept c.self.inside c.args.v.0 c.self.invariant.standing, c.self.inside.slots.ok.0)

pub returns : goal.returns
returns c i = grind (arith, view_at c.self.inside i c.args.v c.index.result.now c.self.invariant.standing)
