use Rattle.nit_audit.proofs.Lemmas.{changed_all}
use Rattle.nit_audit.specs.declared.keys.Which.TheVariants as which
use Rattle.nit_audit.proofs.views.Views.change.Goals as goal

pub invariant_of-self : goal.invariant_of-self
invariant_of-self c = (changed_all (which.One c.args.sid c.args.handle) c.args.change _
    c.self.inside.records c.change_all.new.records c.self.invariant
    (rw c.as_slice.ensures.value at c.change_all.ensures)).1

pub returns : goal.returns
returns c = rw (← c.self.view_is) (changed_all (which.One c.args.sid c.args.handle) c.args.change _
    c.self.inside.records c.change_all.new.records c.self.invariant
    (rw c.as_slice.ensures.value at c.change_all.ensures)).0
