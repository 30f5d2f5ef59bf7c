use Rattle.nit_place.proofs.Lemmas.{rows_below, rows_end, rows_jump}
use Rattle.nit_place.proofs.search.search.Goals as goal

pub returns-in-Full-None : goal.returns-in-Full-None
returns-in-Full-None c =
    rows_end _ _ _ _ _ _ c.rows.invariant (rw c.in-Full-None.field-0-is at c.in-Full-None.ensures)

pub rows-preserved : goal.rows-preserved
rows-preserved c =
    rows_jump _ _ _ _ _ _ _ c.rows.invariant (rw c.in-Full-Some.field-0-is at c.in-Full-Some.ensures)

pub returns : goal.returns
returns c = rows_below _ _ _ _ _ _ c.rows.invariant c.rows-test.false
