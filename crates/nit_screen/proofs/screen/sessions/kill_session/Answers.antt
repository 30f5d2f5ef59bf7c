use Rattle.nit_screen.proofs.Lemmas.{ServerModel, ap, bar_is_bare, can_paint, can_show_loaded}
use Rattle.nit_screen.proofs.Lemmas.{ended_painted, ended_server, painted_in, refl, state_of}
use Rattle.nit_events.specs.declared.event.Status.TheVariants as status
use Rattle.nit_screen.proofs.screen.sessions.kill_session.Goals as goal

pub take_views_away-requires-clause-can : goal.take_views_away-requires-clause-can
take_views_away-requires-clause-can g c =
    let s = c.args.server.now in
    can_paint s s c.args.pixels.now _ c.facts.ensures refl refl c.requires.can c.requires.glasses

pub mark-requires : goal.mark-requires
mark-requires g c =
    let s = c.args.server.now in
    let e = c.take_views_away.ensures in
    let now = ended_server c.args.of status.Killed s c.take_views_away.new.server c.end_session.new.self
    c.requires.session e.session e.left c.end_session.ensures in
    (can_show_loaded s c.end_session.new.self c.args.pixels.now c.take_views_away.new.painter
    (ap (λ (t : ServerModel). t.config) now) (ap (λ (t : ServerModel). t.stack.most) now) e.painted c.requires.can).fits

pub returns-clause-server : goal.returns-clause-server
returns-clause-server g c =
    ended_server c.args.of status.Killed c.args.server.now c.take_views_away.new.server c.end_session.new.self
    c.requires.session c.take_views_away.ensures.session c.take_views_away.ensures.left c.end_session.ensures

pub returns-clause-pixels : goal.returns-clause-pixels
returns-clause-pixels g c =
    let s = c.args.server.now in
    let e = c.take_views_away.ensures in
    let now = returns-clause-server g c in
    (c.mark.ensures c.end_session.new.self
    (can_show_loaded s c.end_session.new.self c.args.pixels.now c.take_views_away.new.painter
    (ap (λ (t : ServerModel). t.config) now) (ap (λ (t : ServerModel). t.stack.most) now) e.painted
    c.requires.can)).pixels

pub returns-clause-painted : goal.returns-clause-painted
returns-clause-painted g c =
    let s = c.args.server.now in
    let s' = c.end_session.new.self in
    let p = c.args.pixels.now in
    let e = c.take_views_away.ensures in
    let now = returns-clause-server g c in
    let can = can_show_loaded s s' p c.take_views_away.new.painter (ap (λ (t : ServerModel). t.config) now)
    (ap (λ (t : ServerModel). t.stack.most) now) e.painted c.requires.can in
    rw (c.mark.ensures s' can).raw
    (painted_in p.is_apart p.bar (λ k l. bar_is_bare (state_of s') k (rw (now, ← c.requires.can.bar) l))
    (ended_painted s s' c.args.of status.Killed _ _ _ p.painter.raw.items c.take_views_away.new.painter.raw.items
    c.facts.ensures c.facts-2.ensures now c.requires.can.pixels e.painted.painted))
