use Rattle.nit_stack.proofs.Lemmas.{keeps_layer}
use Rattle.nit_stack.proofs.stack.Stack.set_layer.Goals as goal

pub invariant_of-self : goal.invariant_of-self
invariant_of-self c =
    record {
      standing = keeps_layer _ c.args.sid c.args.layer c.self.invariant.standing
          (rw (← c.self.view_is) at c.requires.without_view) c.requires.layer;
      space = c.self.invariant.space;
    }
