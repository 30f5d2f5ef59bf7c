use Rattle.nit_session.proofs.Lemmas.{refl, serve_refused, sym, ◌∙◌}
use Rattle.nit_session.proofs.machine.Machine.serve.Goals as goal

pub returns-in-Some-clause-reply : goal.returns-in-Some-clause-reply
returns-in-Some-clause-reply c =
    rw (serve_refused c.args.self.now c.args.call.now c.in-Some.reply (sym c.refused.ensures ∙ c.in-Some.is)) refl

pub returns-in-Some-clause-session : goal.returns-in-Some-clause-session
returns-in-Some-clause-session c =
    rw (serve_refused c.args.self.now c.args.call.now c.in-Some.reply (sym c.refused.ensures ∙ c.in-Some.is)) refl
