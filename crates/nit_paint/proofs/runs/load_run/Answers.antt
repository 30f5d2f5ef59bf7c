use Rattle.nit_paint.proofs.Lemmas.{arith, row_loaded}
use Rattle.nit_paint.proofs.runs.load_run.Goals as goal

pub returns-clause-painted : goal.returns-clause-painted
returns-clause-painted g c source told =
    let e = c.load_row.ensures in
    row_loaded source c.args.at c.args.count _ c.args.sid c.args.start _ _ _ c.load_row.new.row
    (omega (arith, e.count)) (omega arith) (omega arith) told e.loaded e.sights
