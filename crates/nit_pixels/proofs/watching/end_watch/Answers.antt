use Rattle.nit_pixels.proofs.Lemmas.{ends_keep, ◌∙◌}
use Rattle.nit_pixels.proofs.watching.end_watch.Goals as goal

pub join_seat-requires : goal.join_seat-requires
join_seat-requires g c =
    let s = c.args.seat.now in
    let p = c.args.part in (
      c.requires.table.0.0,
      c.requires.table.1 ∙ c.requires.table.0.0,
      c.requires.watches.1,
      c.requires.table.0.1,
      rw c.requires.remains (ends_keep _ _ _ _ _ c.requires.owner c.requires.watches.0),
    )
