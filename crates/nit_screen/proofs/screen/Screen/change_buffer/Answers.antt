use Rattle.nit_screen.proofs.Lemmas.{can_paint_served, part_call}
use Rattle.nit_screen.proofs.screen.Screen.change_buffer.Goals as goal

pub paint_session-requires : goal.paint_session-requires
paint_session-requires g c =
    let can = rw (← c.self.view_is) at c.requires.can in
    rw c.stack-stack.ensures.stack (can_paint_served c.facts.ensures c.stack-stack.ensures.facts c.accept-reply.ensures
    c.make_one.ensures.shown can)

pub show_part-requires : goal.show_part-requires
show_part-requires g c =
    let can = rw (← c.self.view_is) at c.requires.can in
    let made = c.make_one.ensures in
    let e = c.paint_session.ensures.painted in
    let done = part_call _ _ c.facts.ensures c.stack-stack.ensures.facts can c.accept-reply.ensures made.shown made.one
    c.stack-stack.ensures.stack e.kept c.args.part.now c.requires.on e.painted in
    record { can = done.0; apart = done.1; placed = done.2 }

pub invariant_of-self : goal.invariant_of-self
invariant_of-self g c =
    let can = rw (← c.self.view_is) at c.requires.can in
    let made = c.make_one.ensures in
    let e = c.paint_session.ensures.painted in
    ((part_call _ _ c.facts.ensures c.stack-stack.ensures.facts can c.accept-reply.ensures made.shown made.one
    c.stack-stack.ensures.stack e.kept c.args.part.now c.requires.on e.painted).3
    c.show_part.new.self c.show_part.ensures.flat c.show_part.ensures.stale c.show_part.ensures.labelled).0

pub returns-clause-shown : goal.returns-clause-shown
returns-clause-shown g c =
    let can = rw (← c.self.view_is) at c.requires.can in
    let made = c.make_one.ensures in
    let e = c.paint_session.ensures.painted in
    rw (← c.self.view_is) ((part_call _ _ c.facts.ensures c.stack-stack.ensures.facts can c.accept-reply.ensures made.shown
    made.one c.stack-stack.ensures.stack e.kept c.args.part.now c.requires.on e.painted).3
    c.show_part.new.self c.show_part.ensures.flat c.show_part.ensures.stale c.show_part.ensures.labelled).1
