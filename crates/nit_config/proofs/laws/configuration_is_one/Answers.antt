use Rattle.nit_config.proofs.Lemmas.{configured, one_configuration}
use Rattle.nit_config.proofs.laws.configuration_is_one.Goals as goal

pub returns-clause-one : goal.returns-clause-one
returns-clause-one c = one_configuration

pub returns-clause-configured : goal.returns-clause-configured
returns-clause-configured c = configured
