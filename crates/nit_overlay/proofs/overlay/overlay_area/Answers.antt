use Rattle.nit_overlay.proofs.Lemmas.{arith, more_rows, no_rows}
use Rattle.nit_overlay.proofs.overlay.overlay_area.Goals as goal

pub rows-init : goal.rows-init
rows-init c = no_rows c.requires.area.down

pub rows-preserved : goal.rows-preserved
rows-preserved c = more_rows c.rows.invariant (omega arith) (omega arith) c.overlay_row.ensures
