use Rattle.std.proofs.Common.{None, Some, refl, rules, sym, true, ◌∙◌, ◌≡◌}
use Rattle.nit_audit.proofs.Lemmas.{Session, accepted, accepted_reply, by_answer, closing, layer}
use Rattle.nit_audit.proofs.Lemmas.{near, played, refusal, restacked, serve_accepted, session_in}
use Rattle.nit_audit.proofs.replay.Replay.call.Goals as goal

pub returns-in-Some : goal.returns-in-Some
returns-in-Some c =
    let is : refusal (session_in c.args.self.now.sessions c.args.sid) c.args.call.now ≡ Some c.in-Some.refused =
    sym c.refused.ensures ∙ c.in-Some.is in
    by_answer c.args.config.now c.args.sid c.args.call.now c.args.reply.now c.in-Some.refused c.args.self.now
    c.count.new.self c.is_same.result c.requires.kept (search rules) is c.count.ensures c.is_same.ensures.0
    c.is_same.ensures.1

pub returns-then-not-is_same : goal.returns-then-not-is_same
returns-then-not-is_same c =
    let none : refusal (session_in c.args.self.now.sessions c.args.sid) c.args.call.now ≡ None = sym c.refused.ensures
    ∙ c.in_default.is in
    λ agrees.
    let told = rw (serve_accepted (session_in c.args.self.now.sessions c.args.sid) c.args.call.now none) at
    agrees.1 in
    let yes_ = c.is_same-2.ensures.1 (c.accept-answer.ensures.reply ∙ sym told) in
    search rules

pub returns : goal.returns
returns c =
    let none : refusal (session_in c.args.self.now.sessions c.args.sid) c.args.call.now ≡ None = sym c.refused.ensures
    ∙ c.in_default.is in
    let same : c.accept-answer.result ≡ c.args.reply.now = c.is_same-2.ensures.0 (search rules) in
    let is = sym c.accept-answer.ensures.reply ∙ same in
    let old = c.args.self.now in
    let s : Session = session_in old.sessions c.args.sid in
    let yes_ = rw is at (accepted_reply s c.args.call.now) in
    let stack = restacked true (layer c.args.config.now) c.args.sid c.args.call.now c.args.reply.now old.stack yes_ in
    let input = closing true c.args.sid c.args.call.now c.args.reply.now old.focus.input yes_ in
    played c.args.config.now c.args.sid c.args.call.now c.args.reply.now old c.settle.new.self
    (accepted s c.args.call.now) c.requires.kept (search rules) (serve_accepted s c.args.call.now none) is
    (near s c.args.call.now) (rw (c.in_ok-settle.ensures, c.accept-answer.ensures.session, stack, input) refl)
