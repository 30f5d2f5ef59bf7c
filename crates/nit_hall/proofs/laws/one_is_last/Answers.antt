use Rattle.nit_hall.proofs.Lemmas.{last_found, one_last}
use Rattle.nit_hall.proofs.laws.one_is_last.Goals as goal

pub returns-clause-found : goal.returns-clause-found
returns-clause-found c = last_found

pub returns-clause-one : goal.returns-clause-one
returns-clause-one c = one_last
