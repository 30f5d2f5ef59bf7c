use Rattle.nit_repaint.proofs.Lemmas.{arith, ints, part_same, run_told}
use Rattle.nit_repaint.proofs.part.shown_part.Goals as goal

pub returns : goal.returns
returns c = record {
  same = λ p on.
      let v = c.args.view.now in
      part_same c.args.part.now c.of-whole.result c.meet-part.result c.screen_part.result v c.args.size.0 c.args.size.1
      c.args.width c.args.height
      c.shown_run-left.result.0 c.shown_run-left.result.1 c.shown_run-top.result.0 c.shown_run-top.result.1 p
      c.meet-part.ensures.both c.of-whole.ensures c.screen_part.ensures
      (run_told _ c.meet-part.result.x _ v.rect.x _ v.ox _ c.meet-part.result.w _ _ _ (omega (arith, ints))
      c.w.ensures.value
      (omega (arith, ints)) (omega (arith, ints)) c.shown_run-left.ensures.same)
      (run_told _ c.meet-part.result.y _ v.rect.y _ v.oy _ c.meet-part.result.h _ _ _ (omega (arith, ints))
      c.h.ensures.value
      (omega (arith, ints)) (omega (arith, ints)) c.shown_run-top.ensures.same) on;
}
