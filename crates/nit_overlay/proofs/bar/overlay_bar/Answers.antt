use Rattle.nit_overlay.proofs.Lemmas.{ap, arith, bar_black, bar_row, max, scenery, ◌∙◌}
use Rattle.nit_overlay.proofs.bar.overlay_bar.Goals.{else-part-cut, then-part-cut}
use Rattle.nit_overlay.proofs.bar.overlay_bar.Goals as goal

pub returns : goal.returns
returns c = λ raw.
    let s = scenery c.args.lettered.now in
    let least = c.max-cut.ensures ∙ ap (λ n. max n c.args.part.from) c.min.ensures in
    elim c.if-part-cut.branch [
      | then-part-cut w ↦ bar_row s c.args.part.y c.text_of-text.ensures c.text_end.ensures least
          c.requires.part.in_order w.if-part-cut.true c.if-part-cut.out
          (rw w.out-is (w.paint_tag.ensures raw)) (c.fill_part.ensures raw)
      | else-part-cut w ↦ bar_black s c.args.part.y c.text_of-text.ensures c.text_end.ensures least
          c.requires.part.in_order (omega (arith, w.if-part-cut.false)) (rw w.out-is at (c.fill_part.ensures raw))
    ]
