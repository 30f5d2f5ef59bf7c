use Rattle.nit_screen.proofs.Lemmas.{ap, arith, false≢true, nat_tests, refused_reply, refused_state}
use Rattle.nit_screen.proofs.Lemmas.{serve_refused, session, session_in, state_of, sym, unpainted}
use Rattle.nit_screen.proofs.Lemmas.{unrefused_reply, ◌∙◌}
use Rattle.nit_events.specs.declared.entry.Entry.TheVariants as entry
use Rattle.nit_screen.proofs.screen.Screen.call.Goals as goal

pub returns-in-Some-clause-reply : goal.returns-in-Some-clause-reply
returns-in-Some-clause-reply g c =
    rw (← c.self.view_is) (sym (ap (λ a. a.reply)
    (serve_refused (session_in c.self.inside.server.sessions c.args.sid) c.args.call.now c.in-Some.reply
    (sym c.refused.ensures ∙ c.in-Some.is))))

pub returns-in-Some-clause-state : goal.returns-in-Some-clause-state
returns-in-Some-clause-state g c =
    rw (← c.self.view_is) (refused_state (state_of c.self.inside.server) c.args.sid c.args.call.now c.in-Some.reply
    (sym c.refused.ensures ∙ c.in-Some.is))

pub returns-in-Some-clause-painted : goal.returns-in-Some-clause-painted
returns-in-Some-clause-painted g c =
    let s = state_of c.self.inside.server in
    let no_ = refused_reply (session s c.args.sid) c.args.call.now c.in-Some.reply (sym c.refused.ensures
    ∙ c.in-Some.is) in
    rw (← c.self.view_is) (unpainted s (entry.Call c.args.sid c.args.call.now c.in-Some.reply) s (λ p. rw no_))

pub returns-in-Place-clause-refused : goal.returns-in-Place-clause-refused
returns-in-Place-clause-refused g c = grind (arith, nat_tests, unrefused_reply, false≢true)

pub returns-in-Buffer-clause-refused : goal.returns-in-Buffer-clause-refused
returns-in-Buffer-clause-refused g c = grind (arith, nat_tests, unrefused_reply, false≢true)

pub returns-in-Refresh-clause-refused : goal.returns-in-Refresh-clause-refused
returns-in-Refresh-clause-refused g c = grind (arith, nat_tests, unrefused_reply, false≢true)

pub returns-in-Close-clause-refused : goal.returns-in-Close-clause-refused
returns-in-Close-clause-refused g c = grind (arith, nat_tests, unrefused_reply, false≢true)
