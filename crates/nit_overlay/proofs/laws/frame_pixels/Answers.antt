use Rattle.nit_overlay.proofs.laws.frame_pixels.Goals as goal
use Rattle.nit_overlay.proofs.Lemmas.{frame_fits, get_or-frame, length-frame, same_frame}

pub returns : goal.returns
returns c = record { count = length-frame; each = get_or-frame; words = frame_fits; same = same_frame }
