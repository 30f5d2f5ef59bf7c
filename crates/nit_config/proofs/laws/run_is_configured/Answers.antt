use Rattle.nit_config.proofs.Lemmas.{run_configured}
use Rattle.nit_config.proofs.laws.run_is_configured.Goals as goal

pub returns : goal.returns
returns c = run_configured
