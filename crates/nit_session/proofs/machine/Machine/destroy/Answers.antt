use Rattle.nit_session.proofs.Lemmas.{Session, ap, arith, destroyed_held, has_view, kept_fewer, ◌∙◌}
use Rattle.nit_session.proofs.machine.Machine.destroy.Goals as goal

pub invariant_of-self : goal.invariant_of-self
invariant_of-self c = record {
  kept = kept_fewer c.args.v _ _ _ _ _ _ _ c.self.invariant.kept
      (ap (λ (s : Session). has_view s c.args.v) c.self.view_is ∙ destroyed_held c.args.self.now c.args.v c.requires)
      c.drop_view.ensures c.remove.ensures.items;
  space = omega (arith, c.self.invariant.space, c.remove.ensures.capacity);
}
