use Rattle.nit_report.proofs.Lemmas.{arith, begins_more, few_entries, first_bad, journal_reader}
use Rattle.nit_report.proofs.Lemmas.{not_empty, shorter, taken_begins}
use Rattle.nit_report.proofs.parse.entries_of.Goals as goal

pub overflow_cast-result : goal.overflow_cast-result
overflow_cast-result c = omega (arith, few_entries _ _ _ c.loop-rest.invariant)

pub overflow_add-result : goal.overflow_add-result
overflow_add-result c = omega (arith, few_entries _ _ _ c.loop-rest.invariant)

pub returns-in_default : goal.returns-in_default
returns-in_default c =
    first_bad _ _ _ _ c.loop-rest.invariant (not_empty _ _ c.is_empty.ensures c.loop-rest-test.true)
    c.in_default.ensures (omega (arith, c.len.ensures))

pub loop-rest-smaller : goal.loop-rest-smaller
loop-rest-smaller c = shorter _ _ _ c.in-Some.ensures

pub loop-rest-preserved : goal.loop-rest-preserved
loop-rest-preserved c = rw c.in_ok-push.ensures.items
    (begins_more _ _ _ _ _ _ _ c.loop-rest.invariant (taken_begins journal_reader _ _ _ c.in-Some.ensures))
