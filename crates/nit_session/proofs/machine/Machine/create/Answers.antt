use Rattle.nit_session.proofs.Lemmas.{arith, kept_more, rules}
use Rattle.nit_session.proofs.machine.Machine.create.Goals as goal

pub invariant_of-self : goal.invariant_of-self
invariant_of-self c = record {
  kept = kept_more _ _ _ _ _ _ _ c.self.invariant.kept (search rules) c.push_reserved.ensures.items;
  space = omega (arith, c.self.invariant.space, c.push_reserved.ensures.capacity);
}
