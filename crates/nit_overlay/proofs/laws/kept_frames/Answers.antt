use Rattle.nit_overlay.proofs.Lemmas.{renewed}
use Rattle.nit_overlay.proofs.laws.kept_frames.Goals as goal

pub returns-clause-renewed : goal.returns-clause-renewed
returns-clause-renewed c = renewed
