use Rattle.nit_rect.proofs.Lemmas.{divided, within}
use Rattle.nit_rect.proofs.rect.Rect.strips.Goals as goal

pub without-columns-requires-clause-begins : goal.without-columns-requires-clause-begins
without-columns-requires-clause-begins c =
    rw (c.columns-wide.ensures.from, c.columns-cut_wide.ensures.from)
    (within c.args.cut.now c.args.self.now c.requires.pixels c.requires.inside).left

pub without-columns-requires-clause-ends : goal.without-columns-requires-clause-ends
without-columns-requires-clause-ends c =
    rw (c.columns-wide.ensures.from, c.columns-wide.ensures.long)
    (rw (c.columns-cut_wide.ensures.from, c.columns-cut_wide.ensures.long)
    (within c.args.cut.now c.args.self.now c.requires.pixels c.requires.inside).right)

pub without-rows-requires-clause-begins : goal.without-rows-requires-clause-begins
without-rows-requires-clause-begins c =
    rw (c.rows-high.ensures.from, c.rows-cut_high.ensures.from)
    (within c.args.cut.now c.args.self.now c.requires.pixels c.requires.inside).top

pub without-rows-requires-clause-ends : goal.without-rows-requires-clause-ends
without-rows-requires-clause-ends c =
    rw (c.rows-high.ensures.from, c.rows-high.ensures.long, c.rows-cut_high.ensures.from, c.rows-cut_high.ensures.long)
    (within c.args.cut.now c.args.self.now c.requires.pixels c.requires.inside).bottom

pub returns : goal.returns
returns c = λ p.
    let wide = c.columns-wide.ensures in
    let high = c.rows-high.ensures in
    let cut_wide = c.columns-cut_wide.ensures in
    let cut_high = c.rows-cut_high.ensures in
    rw (c.of_spans.ensures, c.of_spans-2.ensures, c.of_spans-3.ensures, c.of_spans-4.ensures)
    (rw (wide.from, wide.long, cut_high.from, cut_high.long) (divided c.args.self.now c.args.cut.now _ _ _ _ _ _ _ _ p
    (rw (wide.from, wide.long, cut_wide.from, cut_wide.long) at (c.without-columns.ensures p.x))
    (rw (high.from, high.long, cut_high.from, cut_high.long) at (c.without-rows.ensures p.y))))
