use Rattle.nit_place.proofs.Lemmas.{mapped_place}
use Rattle.nit_place.proofs.laws.mapped_place.Goals as goal

pub returns : goal.returns
returns c = mapped_place
