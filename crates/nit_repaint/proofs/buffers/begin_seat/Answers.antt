use Rattle.nit_repaint.proofs.Lemmas.{ap, arith, ne_eqb, once, same_Some, seat_session, seat_set}
use Rattle.nit_repaint.proofs.Lemmas.{sym, wanted_here, ◌∙◌}
use Rattle.nit_repaint.proofs.buffers.begin_seat.Goals as goal

pub returns-then-session-of-clause-none : goal.returns-then-session-of-clause-none
returns-then-session-of-clause-none c is s at p =
    let other = ne_eqb s.view.sid c.args.of (λ same. c.if-session-of.true
    (sym (seat_session _ s c.session.result at (c.session.ensures c.args.i c.at-v.ensures.place)) ∙ same)) in
    grind (arith, other)

pub returns-clause-to_come : goal.returns-clause-to_come
returns-clause-to_come c is s at p on =
    let there = c.view-view.ensures.place c.args.i c.at-v.ensures.place in
    let own = sym (seat_session _ _ c.session.result there (c.session.ensures c.args.i c.at-v.ensures.place)) in
    c.begin_owned.ensures.to_come p on
    ∙ ap once (seat_set c.args.stack.now c.shown_rect-rect.result c.at-v.result c.view-view.result s c.args.of
    c.args.part.now p c.view-view.ensures.standing.slots c.view-view.ensures.value (same_Some _ _ (sym there ∙ at))
    (λ over. c.shown_rect-rect.ensures.same p on over
    ∙ wanted_here c.args.stack.now c.view-view.result c.args.of c.args.part.now p (sym own ∙ c.if-session-of.false)))
