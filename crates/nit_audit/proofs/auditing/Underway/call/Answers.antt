use Rattle.nit_audit.proofs.Lemmas.{UnderwayModel, ap, follows, if_ok, ◌∙◌}
use Rattle.nit_events.specs.declared.entry.Entry.TheVariants as entry
use Rattle.nit_audit.proofs.auditing.Underway.call.Goals as goal

pub returns : goal.returns
returns c =
    let gone = rw c.if-not-make.false at c.make.ensures in
    let total = c.self.view_is ∙ gone.1 in
    if_ok _ _ c.call.result (λ b step. follows c.args.config.now
    (entry.Call c.args.sid c.args.call.now c.args.reply.now) c.args.self.now _ _ b total gone.0
    (rw (ap (λ (p : UnderwayModel). p.replay) total) at step)) c.call.ensures
