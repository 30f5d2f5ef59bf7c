use Rattle.nit_screen.proofs.Lemmas.{can_paint_served, view_call}
use Rattle.nit_screen.proofs.screen.Screen.change_view.Goals as goal

pub paint_changed-requires : goal.paint_changed-requires
paint_changed-requires g c =
    let can = rw (← c.self.view_is) at c.requires.can in
    rw c.stack-stack.ensures.stack (can_paint_served c.facts.ensures c.stack-stack.ensures.facts c.accept-reply.ensures
    c.make_one.ensures.shown can)

pub show_views-requires : goal.show_views-requires
show_views-requires g c =
    let can = rw (← c.self.view_is) at c.requires.can in
    let made = c.make_one.ensures in
    let was = c.view_before-was.ensures in
    let e = c.paint_changed.ensures in
    (view_call _ _ c.facts.ensures c.stack-stack.ensures.facts can c.accept-reply.ensures made.shown made.one
    c.stack-stack.ensures.stack e.kept c.requires.on was.named was.place was.seat e.painted).0

pub invariant_of-self : goal.invariant_of-self
invariant_of-self g c =
    let can = rw (← c.self.view_is) at c.requires.can in
    let made = c.make_one.ensures in
    let was = c.view_before-was.ensures in
    let e = c.paint_changed.ensures in
    ((view_call _ _ c.facts.ensures c.stack-stack.ensures.facts can c.accept-reply.ensures made.shown made.one
    c.stack-stack.ensures.stack e.kept c.requires.on was.named was.place was.seat e.painted).1
    c.show_views.new.self c.show_views.ensures.flat c.show_views.ensures.labelled).0

pub returns-clause-shown : goal.returns-clause-shown
returns-clause-shown g c =
    let can = rw (← c.self.view_is) at c.requires.can in
    let made = c.make_one.ensures in
    let was = c.view_before-was.ensures in
    let e = c.paint_changed.ensures in
    rw (← c.self.view_is) ((view_call _ _ c.facts.ensures c.stack-stack.ensures.facts can c.accept-reply.ensures made.shown
    made.one c.stack-stack.ensures.stack e.kept c.requires.on was.named was.place was.seat e.painted).1
    c.show_views.new.self c.show_views.ensures.flat c.show_views.ensures.labelled).1
