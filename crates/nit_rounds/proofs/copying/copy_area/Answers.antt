use Rattle.nit_rounds.proofs.Lemmas.{all_drawn, arith, nat_tests, row_drawn, told_at}
use Rattle.nit_rounds.proofs.DrawingLemmas.{begun}
use Rattle.nit_rounds.proofs.copying.copy_area.Goals as goal

pub rows-init : goal.rows-init
rows-init c = begun c.args.w c.args.area (told_at c.args.own.now) c.args.scene.now c.args.sid

pub rows-preserved : goal.rows-preserved
rows-preserved c = grind (arith, nat_tests, row_drawn)

pub returns : goal.returns
returns c = all_drawn c.args.w c.args.area (told_at c.args.own.now) c.args.scene.now c.rows.scene c.args.sid c.rows.j
    c.requires.columns (omega (arith, c.rows-test.false)) c.rows.invariant
