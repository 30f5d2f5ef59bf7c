use Rattle.nit_rounds.proofs.Lemmas.{by_rounds_alone}
use Rattle.nit_rounds.proofs.laws.one_client_goes_by_rounds.Goals as goal

pub returns : goal.returns
returns c = by_rounds_alone
