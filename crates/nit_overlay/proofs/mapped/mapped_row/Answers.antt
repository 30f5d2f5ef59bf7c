use Rattle.nit_overlay.proofs.Lemmas.{arith, more_columns, no_columns}
use Rattle.nit_overlay.proofs.mapped.mapped_row.Goals as goal

pub runs-init : goal.runs-init
runs-init c = no_columns c.requires.area.area.across

pub runs-preserved : goal.runs-preserved
runs-preserved c =
    more_columns c.runs.invariant (omega arith) c.first_run-x.ensures.within c.first_run-x.ensures.shown
