use Rattle.nit_journal.proofs.Lemmas.{as_many_as_clients, same_config, same_throughout}
use Rattle.nit_journal.proofs.laws.configuration_stays.Goals as goal

pub returns : goal.returns
returns c = assumption (same_config, same_throughout, as_many_as_clients)
