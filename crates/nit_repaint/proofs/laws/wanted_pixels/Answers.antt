use Rattle.nit_repaint.proofs.Lemmas.{part_of_session}
use Rattle.nit_repaint.proofs.laws.wanted_pixels.Goals as goal

pub returns-clause-part : goal.returns-clause-part
returns-clause-part c = part_of_session
