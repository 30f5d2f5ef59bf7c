use Rattle.nit_screen.proofs.Lemmas.{arith, columns_same, ints}
use Rattle.nit_screen.proofs.screen.patches.columns_of.Goals as goal

pub returns-clause-same : goal.returns-clause-same
returns-clause-same c x lt =
    columns_same c.args.rect.now.x _ _ c.args.rect.now.w _ _ x (omega (arith, ints)) (omega (arith, ints))
    (c.clip-left.ensures.same x lt) (c.clip-right.ensures.same x lt)
