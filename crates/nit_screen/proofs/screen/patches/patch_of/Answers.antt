use Rattle.std.proofs.Common.{pos}
use Rattle.nit_screen.proofs.Basics.{spans}
use Rattle.nit_screen.proofs.Lemmas.{and_swap}
use Rattle.nit_screen.proofs.screen.patches.patch_of.Goals as goal

pub returns-clause-same : goal.returns-clause-same
returns-clause-same c x y left above =
    rw (c.columns_of-left.ensures.same x left, c.rows_of-top.ensures.same y above)
    (and_swap (spans c.args.rect.now.y c.args.rect.now.h (pos y)) (spans c.args.rect.now.x c.args.rect.now.w (pos x)))
