use Rattle.nit_server.proofs.Lemmas.{arith, fewer, first_session, get_or-set_same, length-set}
use Rattle.nit_server.proofs.Lemmas.{nat_tests, none_left, one_less, session_in}
use Rattle.nit_server.proofs.server.Server.clear_views.Goals as goal

pub views-smaller : goal.views-smaller
views-smaller c =
    let s = c.views.self in
    rw (c.remove_view.ensures, get_or-set_same s.sessions c.args.sid _ (first_session 0) c.views.invariant.there)
    (fewer c.in-Some.handle (session_in s.sessions c.args.sid).handles c.in-Some.ensures.held)

pub views-preserved : goal.views-preserved
views-preserved c = grind (arith, nat_tests, length-set, one_less)

pub returns : goal.returns
returns c = grind (arith, nat_tests, none_left)
