use Rattle.nit_audit.proofs.Lemmas.{removed}
use Rattle.nit_audit.proofs.views.Views.remove.Goals as goal

pub invariant_of-self : goal.invariant_of-self
invariant_of-self c = rw c.take_out_empty.ensures (removed c.args.which _
    c.self.inside.records c.drop_all.new.records c.self.invariant (rw c.as_slice.ensures.value at c.drop_all.ensures)).1

pub returns : goal.returns
returns c = rw (c.take_out_empty.ensures, ← c.self.view_is) (removed c.args.which _
    c.self.inside.records c.drop_all.new.records c.self.invariant (rw c.as_slice.ensures.value at c.drop_all.ensures)).0
