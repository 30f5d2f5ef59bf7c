use Rattle.nit_pixels.proofs.Lemmas.{takes_up_keep, ◌∙◌}
use Rattle.nit_pixels.proofs.watching.take_up.Goals as goal

pub join_seat-requires : goal.join_seat-requires
join_seat-requires g c =
    let s = c.args.seat.now in
    let p = c.args.part in (
      c.requires.table.0.0,
      c.requires.table.1 ∙ c.requires.table.0.0,
      c.requires.watches.1,
      c.requires.table.0.1,
      rw c.requires.remains (takes_up_keep _ _ _ _ _ c.requires.reader c.requires.watches.0),
    )
