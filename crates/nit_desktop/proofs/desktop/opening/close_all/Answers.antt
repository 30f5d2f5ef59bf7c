use Rattle.nit_desktop.proofs.Lemmas.{Member, State, all_closed, ap, arith, length, length-map}
use Rattle.nit_desktop.proofs.Lemmas.{first_session}
use Rattle.nit_desktop.proofs.desktop.opening.close_all.Goals as goal

pub returns-clause-state : goal.returns-clause-state
returns-clause-state g c =
    let config = c.args.desktop.now.state.config in
    let count = ap (λ (s : State). length s.sessions) c.requires.first in
    let each = length-map config.clients (λ (m : Member). first_session m.donation) in
    all_closed config c.sessions.sid c.sessions.desktop.state c.sessions.invariant.closed
    (omega (arith, c.sessions-test.false, c.sessions-sid-end.ensures, count, each))
