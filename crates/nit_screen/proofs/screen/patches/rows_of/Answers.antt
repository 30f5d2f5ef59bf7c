use Rattle.nit_screen.proofs.Lemmas.{arith, columns_same, ints}
use Rattle.nit_screen.proofs.screen.patches.rows_of.Goals as goal

pub returns-clause-same : goal.returns-clause-same
returns-clause-same c y lt =
    columns_same c.args.rect.now.y _ _ c.args.rect.now.h _ _ y (omega (arith, ints)) (omega (arith, ints))
    (c.clip-top.ensures.same y lt) (c.clip-bottom.ensures.same y lt)
