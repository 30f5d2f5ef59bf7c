use Rattle.nit_pixels.proofs.Lemmas.{begins_keep}
use Rattle.nit_pixels.proofs.watching.begin_watch.Goals as goal

pub split_seat-requires : goal.split_seat-requires
split_seat-requires g c = (
  c.requires.table.0,
  c.requires.table.1,
  begins_keep _ _ _ _ c.requires.owner c.requires.unwatched c.requires.held,
)
