use Rattle.nit_audit.proofs.Lemmas.{UnderwayModel, ap, follows, ◌∙◌}
use Rattle.nit_events.specs.declared.entry.Entry.TheVariants as entry
use Rattle.nit_audit.proofs.auditing.Underway.shot.Goals as goal

pub returns : goal.returns
returns c =
    let gone = rw c.if-not-shoot.false at c.shoot.ensures in
    let total = c.self.view_is ∙ gone.1 in
    follows c.args.config.now (entry.Shot c.args.number) c.args.self.now _ _ c.shot.result total gone.0
    (rw (ap (λ (p : UnderwayModel). p.replay) total) at c.shot.ensures)
