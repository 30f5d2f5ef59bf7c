use Rattle.nit_rounds.proofs.Lemmas.{whole}
use Rattle.nit_rounds.proofs.laws.rounds_are_whole.Goals as goal

pub returns : goal.returns
returns c = whole
