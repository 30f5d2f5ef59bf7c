use Rattle.nit_focus.proofs.Lemmas.{held_none}
use Rattle.nit_focus.proofs.held.Held.nothing.Goals as goal

pub invariant_of-result : goal.invariant_of-result
invariant_of-result c = held_none c.new.result.items c.new.ensures
