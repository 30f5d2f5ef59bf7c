use Rattle.nit_session.proofs.Lemmas.{arith, kept_none}
use Rattle.nit_session.proofs.machine.Machine.end.Goals as goal

pub invariant_of-self : goal.invariant_of-self
invariant_of-self c = record {
  kept = kept_none _ _ _ _ _ _ _ c.self.invariant.kept c.clear.ensures c.clear-2.ensures.items;
  space = omega (arith, c.self.invariant.space, c.clear-2.ensures.capacity);
}
