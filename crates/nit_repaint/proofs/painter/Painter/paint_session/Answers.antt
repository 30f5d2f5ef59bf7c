use Rattle.std.proofs.Common.{◌&&◌}
use Rattle.nit_repaint.proofs.Lemmas.{Point, all_wanted, arith, comes_as, is_slot, is_wanted}
use Rattle.nit_repaint.proofs.Lemmas.{more_painted, nothing_painted, one_wanted, other_count}
use Rattle.nit_repaint.proofs.Lemmas.{owner_passes, pixel, refl, repainted_none, seat_there}
use Rattle.nit_repaint.proofs.Lemmas.{still_can, ◌∙◌}
use Rattle.nit_repaint.proofs.painter.Painter.paint_session.Goals as goal

pub views-init : goal.views-init
views-init g c = record {
  marked = nothing_painted (repainted_none _ _ _ _ _ (λ k l. grind arith));
  rest = refl;
}

pub paint_to_come-requires-clause-painter : goal.paint_to_come-requires-clause-painter
paint_to_come-requires-clause-painter g c =
    let can = still_can c.args.stack.now c.views.invariant.marked
    (record { pixels = c.requires.pixels; held = c.requires.held }) in
    record { pixels = can.pixels; held = can.held }

pub views-preserved : goal.views-preserved
views-preserved g c =
    let s = c.args.stack.now in
    let v = c.views.invariant.marked in
    let e = c.paint_to_come.ensures in
    let x = seat_there s.views c.views.i (omega (arith, c.views-test.true, c.len-views.ensures.count)) in
    record {
      marked = more_painted v c.begin_seat-is_of_session.ensures.room e.painted
          (one_wanted s c.args.of c.args.part.now c.views.i x.0 c.len-views.ensures.standing.slots x.1 v.painted
          (other_count _ _ _ _ _ _ _ _ v.kept.count
          (comes_as s c.begin_seat-is_of_session.new.cutter
          (λ (p : Point). owner_passes (is_slot x.0.slot) s p && is_wanted c.args.of c.args.part.now s p x.0)
          (v.kept.count ∙ c.requires.pixels)
          (c.begin_seat-is_of_session.ensures.to_come c.if-not-is_of_session.false x.0 x.1) e.painted.painted)));
      rest = e.rest ∙ c.views.invariant.rest;
    }

pub views-preserved-then-not-is_of_session : goal.views-preserved-then-not-is_of_session
views-preserved-then-not-is_of_session g c =
    let s = c.args.stack.now in
    let v = c.views.invariant.marked in
    let x = seat_there s.views c.views.i (omega (arith, c.views-test.true, c.len-views.ensures.count)) in
    record {
      marked = record {
        painted = one_wanted s c.args.of c.args.part.now c.views.i x.0
            c.len-views.ensures.standing.slots x.1 v.painted (repainted_none _ _ _ _ _ (λ k l.
            c.begin_seat-is_of_session.ensures.none c.if-not-is_of_session.true x.0 x.1 (pixel s.width k)));
        kept = record { count = v.kept.count; room = c.begin_seat-is_of_session.ensures.room ∙ v.kept.room };
      };
      rest = c.views.invariant.rest;
    }

pub returns-clause-painted : goal.returns-clause-painted
returns-clause-painted g c = record {
  painted = all_wanted c.args.stack.now c.args.of c.args.part.now c.views.i
      (omega (arith, c.views-test.false, c.len-views.ensures.count)) c.views.invariant.marked.painted;
  kept = c.views.invariant.marked.kept;
}
