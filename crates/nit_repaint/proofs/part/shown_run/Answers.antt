use Rattle.nit_repaint.proofs.Lemmas.{arith, ints, run_none, run_same}
use Rattle.nit_repaint.proofs.part.shown_run.Goals as goal

pub returns-then-right-left-clause-same : goal.returns-then-right-left-clause-same
returns-then-right-left-clause-same c at l =
    run_none c.args.from c.args.corner c.args.offset _ _ c.args.long c.first_on_screen-left.result
    c.first_on_screen-right.result at
    (omega (arith, ints)) (omega (arith, ints))
    (c.first_on_screen-left.ensures.same at l) (c.first_on_screen-right.ensures.same at l) c.if-right-left.true

pub returns-clause-same : goal.returns-clause-same
returns-clause-same c at l =
    run_same c.args.from c.args.corner c.args.offset _ _ c.args.long c.first_on_screen-left.result
    c.first_on_screen-right.result at
    (omega (arith, ints)) (omega (arith, ints))
    (c.first_on_screen-left.ensures.same at l) (c.first_on_screen-right.ensures.same at l) c.if-right-left.false
