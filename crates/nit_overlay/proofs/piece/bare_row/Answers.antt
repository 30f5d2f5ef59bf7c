use Rattle.nit_overlay.proofs.Lemmas.{arith, bar_unowned, nat_tests, scenery}
use Rattle.nit_overlay.proofs.piece.bare_row.Goals as goal

pub returns-then-is_bar_row : goal.returns-then-is_bar_row
returns-then-is_bar_row c =
    bar_unowned (scenery c.args.lettered.now) c.args.part.y (grind (arith, nat_tests, c.if-is_bar_row.true, c.is_bar_row.ensures))
    (c.overlay_bar.ensures c.args.raw.now)
