use Rattle.nit_rounds.proofs.Lemmas.{as_replayed}
use Rattle.nit_rounds.proofs.laws.drawn_as_replayed.Goals as goal

pub returns : goal.returns
returns c = as_replayed
