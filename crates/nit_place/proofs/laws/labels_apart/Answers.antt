use Rattle.nit_place.proofs.Lemmas.{apart}
use Rattle.nit_place.proofs.laws.labels_apart.Goals as goal

pub returns : goal.returns
returns c = apart
