use Rattle.nit_host.proofs.Lemmas.{only_restacked}
use Rattle.nit_host.proofs.laws.restacking_is_the_users.Goals as goal

pub returns : goal.returns
returns c = only_restacked
