use Rattle.nit_screen.proofs.Lemmas.{ap, arith, can_stay, deliveries_of, kill_alone, kill_is_live}
use Rattle.nit_screen.proofs.Lemmas.{killed_painted, killed_state, kills, nat_tests, no_kill}
use Rattle.nit_screen.proofs.Lemmas.{none_dirty, raw_of, state_of, unpainted, ◌∙◌}
use Rattle.nit_events.specs.declared.entry.Entry.TheVariants as entry
use Rattle.nit_screen.proofs.screen.Screen.input.Goals as goal

pub kill_session-requires-clause-session : goal.kill_session-requires-clause-session
kill_session-requires-clause-session g c =
    let s = c.self.inside.server in
    let r = c.route-routed.ensures in
    let alone = kill_alone c.kills_stand_alone.ensures s c.args.dev r.routed c.killed.ensures c.in-Some.is in
    let live = rw (← c.self.view_is) at c.requires.live in
    rw r.server (kill_is_live s c.in-Some.sid _ alone live).0

pub kill_session-requires-clause-can : goal.kill_session-requires-clause-can
kill_session-requires-clause-can g c = grind (arith, nat_tests, can_stay)

pub show_input-requires-clause-can : goal.show_input-requires-clause-can
show_input-requires-clause-can g c = grind (arith, nat_tests, can_stay)

-- what is routed to live sessions changes the input and queues alone
pub show_input-requires-clause-before : goal.show_input-requires-clause-before
show_input-requires-clause-before g c = grind (arith, nat_tests)

pub show_input-requires-clause-apart : goal.show_input-requires-clause-apart
show_input-requires-clause-apart g c = λ d. c.self.invariant.2 (rw c.mode-mode.ensures at d)

pub returns-in-Some-clause-state : goal.returns-in-Some-clause-state
returns-in-Some-clause-state g c = grind (arith, nat_tests, kill_alone, killed_state)

pub returns-in-Some-clause-painted : goal.returns-in-Some-clause-painted
returns-in-Some-clause-painted g c =
    let s = c.self.inside.server in
    let r = c.route-routed.ensures in
    let alone = kill_alone c.kills_stand_alone.ensures s c.args.dev r.routed c.killed.ensures c.in-Some.is in
    rw (← c.self.view_is) (killed_painted s c.route-routed.new.self c.kill_session.new.server c.args.dev
    c.route-routed.result c.in-Some.sid _ _ (raw_of c.self.inside.pixels) (raw_of c.kill_session.new.pixels)
    r.server (r.all ∙ alone) c.kill_session.ensures.painted)

pub returns-clause-painted : goal.returns-clause-painted
returns-clause-painted g c =
    let s = c.self.inside.server in
    let r = c.route-routed.ensures in
    let none = no_kill c.kills_stand_alone.ensures s c.args.dev r.routed c.killed.ensures c.in_default.is in
    rw (← c.self.view_is, c.show_input.ensures.raw)
    (unpainted (state_of s) (entry.Input c.args.dev c.route-routed.result) (state_of c.tell_all.new.self)
    (λ p. none_dirty (state_of s) p (deliveries_of c.route-routed.result)
    (ap kills r.all ∙ none)))
