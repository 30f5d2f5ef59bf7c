use Rattle.nit_config.proofs.Lemmas.{not_both, one_refusal}
use Rattle.nit_config.proofs.laws.refusal_is_one.Goals as goal

pub returns-clause-one : goal.returns-clause-one
returns-clause-one c = one_refusal

pub returns-clause-none : goal.returns-clause-none
returns-clause-none c = not_both
