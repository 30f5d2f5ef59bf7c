use Rattle.nit_pixels.proofs.Lemmas.{rules, splits_keep}
use Rattle.nit_pixels.proofs.canvas.Canvas.split.Goals as goal

pub split_seat-seat-requires : goal.split_seat-seat-requires
split_seat-seat-requires c = (search rules, search rules, splits_keep _ _ _)
