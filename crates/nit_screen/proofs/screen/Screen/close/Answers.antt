use Rattle.nit_screen.proofs.Lemmas.{can_paint, close_call, refl}
use Rattle.nit_screen.proofs.screen.Screen.close.Goals as goal

pub take_views_away-requires-clause-can : goal.take_views_away-requires-clause-can
take_views_away-requires-clause-can g c =
    let s = c.self.inside.server in
    let can = rw (← c.self.view_is) at c.requires in
    can_paint s s c.self.inside.pixels _ c.facts.ensures refl refl c.self.invariant.0 can.glasses

pub mark-requires : goal.mark-requires
mark-requires g c =
    let e = c.take_views_away.ensures in
    let can = rw (← c.self.view_is) at c.requires in
    (close_call {p = c.self.inside.pixels} _ c.facts.ensures c.facts-2.ensures can c.self.invariant e.session e.left
    c.end_session.ensures e.painted).0.fits

pub invariant_of-self : goal.invariant_of-self
invariant_of-self g c =
    let e = c.take_views_away.ensures in
    let can = rw (← c.self.view_is) at c.requires in
    let done = close_call {p = c.self.inside.pixels} _ c.facts.ensures c.facts-2.ensures can c.self.invariant e.session
    e.left c.end_session.ensures e.painted in
    (done.1 c.mark.new.self (c.mark.ensures c.end_session.new.self done.0)).0

pub returns-clause-shown : goal.returns-clause-shown
returns-clause-shown g c =
    let e = c.take_views_away.ensures in
    let can = rw (← c.self.view_is) at c.requires in
    let done = close_call {p = c.self.inside.pixels} _ c.facts.ensures c.facts-2.ensures can c.self.invariant e.session
    e.left c.end_session.ensures e.painted in
    rw (← c.self.view_is) (done.1 c.mark.new.self (c.mark.ensures c.end_session.new.self done.0)).1
