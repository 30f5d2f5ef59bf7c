use Rattle.std.proofs.Common.{◌&&◌}
use Rattle.nit_repaint.proofs.Lemmas.{Point, arith, is_slot, is_wanted, last_shown, next_shown}
use Rattle.nit_repaint.proofs.Lemmas.{nothing_set, owner_passes, pixel, refl, seat_there, shown_as}
use Rattle.nit_repaint.proofs.Lemmas.{shown_at, ◌∙◌}
use Rattle.nit_repaint.proofs.painter.Painter.show_session.Goals as goal

pub views-init : goal.views-init
views-init c = record {
  room = refl;
  raw = refl;
  shown = nothing_set _ _ _ _ (λ k l. grind arith);
}

pub views-preserved : goal.views-preserved
views-preserved c =
    let s = c.args.lettered.now.look.stack.now in
    let word = shown_at c.args.lettered.now c.args.self.now.raw.items in
    let v = c.views.invariant in
    let e = c.show_to_come.ensures in
    let x = seat_there s.views c.views.i (omega (arith, c.views-test.true, c.len-views.ensures.count)) in
    record {
      room = e.room ∙ c.begin_seat-is_of_session.ensures.room ∙ v.room;
      raw = v.raw;
      shown = next_shown s c.args.of c.args.part.now c.views.i x.0 word word _ _ _
          c.len-views.ensures.standing.slots x.1 (λ k out. refl) v.shown
          (shown_as s c.begin_seat-is_of_session.new.cutter
          (λ (p : Point). owner_passes (is_slot x.0.slot) s p && is_wanted c.args.of c.args.part.now s p x.0)
          c.requires.look.pixels (c.begin_seat-is_of_session.ensures.to_come c.if-not-is_of_session.false x.0 x.1)
          (rw v.raw at (rw c.as_slice.ensures.value at e.shown)));
    }

pub views-preserved-then-not-is_of_session : goal.views-preserved-then-not-is_of_session
views-preserved-then-not-is_of_session c =
    let s = c.args.lettered.now.look.stack.now in
    let word = shown_at c.args.lettered.now c.args.self.now.raw.items in
    let v = c.views.invariant in
    let x = seat_there s.views c.views.i (omega (arith, c.views-test.true, c.len-views.ensures.count)) in
    record {
      room = c.begin_seat-is_of_session.ensures.room ∙ v.room;
      raw = v.raw;
      shown = next_shown s c.args.of c.args.part.now c.views.i x.0 word word _ _ _
          c.len-views.ensures.standing.slots x.1 (λ k out. refl) v.shown
          (nothing_set _ _ _ _ (λ k l. c.begin_seat-is_of_session.ensures.none c.if-not-is_of_session.true x.0 x.1
          (pixel s.width k)));
    }

pub returns-clause-shown : goal.returns-clause-shown
returns-clause-shown c =
    last_shown c.args.lettered.now.look.stack.now c.args.of c.args.part.now c.views.i
    (omega (arith, c.views-test.false, c.len-views.ensures.count)) c.views.invariant.shown
