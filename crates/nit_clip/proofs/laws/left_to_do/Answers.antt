use Rattle.nit_clip.proofs.Lemmas.{left_is}
use Rattle.nit_clip.proofs.laws.left_to_do.Goals as goal

pub returns : goal.returns
returns c scripts clips sid = left_is scripts clips sid
