use Rattle.nit_clip.proofs.Lemmas.{whole_fit}
use Rattle.nit_clip.proofs.laws.whole_clips_fit.Goals as goal

pub returns : goal.returns
returns c = whole_fit
