use Rattle.nit_screen.proofs.Lemmas.{arith, can_relabel, length-map, nat_tests, same_source}
use Rattle.nit_screen.proofs.screen.Screen.reopen.Goals as goal

pub index_mut-requires : goal.index_mut-requires
index_mut-requires g c = grind (arith, nat_tests, length-map)

pub mark-requires : goal.mark-requires
mark-requires g c =
    (can_relabel c.kill_session.new.server c.open.new.self c.args.sid c.args.label c.kill_session.new.pixels
    c.open.ensures c.kill_session.ensures.pixels.0).fits

pub invariant_of-self : goal.invariant_of-self
invariant_of-self g c =
    (c.mark.ensures c.open.new.self
    (can_relabel c.kill_session.new.server c.open.new.self c.args.sid c.args.label c.kill_session.new.pixels
    c.open.ensures c.kill_session.ensures.pixels.0)).pixels

pub returns-clause-painted : goal.returns-clause-painted
returns-clause-painted g c =
    let s = c.self.inside.server in
    let mid = c.kill_session.new.server in
    let s' = c.open.new.self in
    let e = c.kill_session.ensures in
    let lt = rw (← c.self.view_is) at c.requires.session in
    let can = can_relabel mid s' c.args.sid c.args.label c.kill_session.new.pixels c.open.ensures e.pixels.0 in
    rw (← c.self.view_is, (c.mark.ensures s' can).raw)
    (rw (same_source s mid s' c.args.sid c.args.label e.server c.open.ensures lt) e.painted)
