use Rattle.nit_labels.proofs.Lemmas.{arith, down_step}
use Rattle.nit_labels.proofs.Lemmas.{owner_at, refl, slice_index_or}
use Rattle.nit_labels.proofs.down.count_down.Goals as goal

pub returns : goal.returns
returns c x lt =
    let below = c.row_below.result in
    rw (c.count_row.ensures x (omega arith))
    (down_step (owner_at c.args.own.now c.args.width) c.args.height c.args.tall x c.args.y
    (slice_index_or c.args.down.now x 0) below _ c.requires.tall c.requires.row c.row_below.ensures.below
    (rw (c.row_of-below.ensures.owners x lt, c.row_of-row.ensures.owners x lt) refl) (c.requires.below x lt))
