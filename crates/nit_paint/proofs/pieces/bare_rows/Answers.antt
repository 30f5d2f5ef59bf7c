use Rattle.nit_paint.proofs.Lemmas.{ap, arith, own_word, refl, rows_more, rows_none}
use Rattle.nit_paint.proofs.pieces.bare_rows.Goals as goal

pub rows-init : goal.rows-init
rows-init c source glasses bare = rows_none source c.args.block.now _ glasses _

pub rows-preserved : goal.rows-preserved
rows-preserved c source glasses bare =
    rows_more source c.args.block.now c.rows.j _ _ _ _ glasses glasses glasses _ _ _ (omega arith) (omega arith) refl
    refl c.rows.auto.raw (c.rows.invariant source glasses bare)
    (c.fill_run.ensures.painted source glasses (λ i l. ap own_word (bare c.rows.j i c.rows-test.true l)))
