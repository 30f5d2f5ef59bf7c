use Rattle.nit_pixels.proofs.Lemmas.{lays_down_keep}
use Rattle.nit_pixels.proofs.watching.lay_down.Goals as goal

pub split_seat-requires : goal.split_seat-requires
split_seat-requires c = (c.requires.table.0, c.requires.table.1, lays_down_keep _ _ _ c.requires.watches)
