use Rattle.nit_config.proofs.Lemmas.{still_configured}
use Rattle.nit_config.proofs.laws.still_is_configured.Goals as goal

pub returns : goal.returns
returns c = still_configured
