use Rattle.nit_audit.proofs.Lemmas.{UnderwayModel, ap, follows, ◌∙◌}
use Rattle.nit_events.specs.declared.entry.Entry.TheVariants as entry
use Rattle.nit_audit.proofs.auditing.Underway.input.Goals as goal

pub returns : goal.returns
returns c =
    let gone = rw c.if-not-act.false at c.act.ensures.gone in
    let total = c.self.view_is ∙ gone.1 in
    follows c.args.config.now (entry.Input c.args.dev c.args.routed.now) c.args.self.now _ _ c.input.result total gone.0
    (rw (ap (λ (p : UnderwayModel). p.replay) total) at c.input.ensures)
