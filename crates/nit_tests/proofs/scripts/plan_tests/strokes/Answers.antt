use Rattle.std.proofs.Common.{refl}
use Rattle.nit_tests.proofs.scripts.plan_tests.strokes.Goals as goal

pub do_lines-requires-clause-before : goal.do_lines-requires-clause-before
do_lines-requires-clause-before c =
    rw (c.in_ok-glass.ensures, c.room.ensures, c.in_ok-ink.ensures.ink, c.lines.ensures.value)
    (c.no_line_done.ensures.coloured c.args.client.now c.args.donation 0 c.in_ok-plan.plan c.requires
    c.in_ok-plan.ensures.plan)

pub do_lines-requires-clause-stages : goal.do_lines-requires-clause-stages
do_lines-requires-clause-stages c = rw c.in_ok-glass.ensures refl
