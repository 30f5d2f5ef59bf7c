use Rattle.nit_script.proofs.Lemmas.{arith, first_bad_here, has_read_more, not_empty}
use Rattle.nit_script.proofs.parse.read_lines.Goals as goal

pub returns-in_default : goal.returns-in_default
returns-in_default g c =
    first_bad_here c.loop-number.invariant
    (not_empty c.loop-number.rest.now c.is_empty.result c.is_empty.ensures c.if-is_empty.false) c.in_default.ensures
    (omega arith)

pub loop-number-preserved : goal.loop-number-preserved
loop-number-preserved g c = rw c.in_ok-push.ensures.items
    (has_read_more c.in-Some.found c.in-Some.after.now c.loop-number.invariant c.in-Some.ensures)
