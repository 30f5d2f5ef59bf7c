use Rattle.nit_config.proofs.Lemmas.{string_there}
use Rattle.nit_config.proofs.build.text_at.Goals as goal

pub returns-clause-there : goal.returns-clause-there
returns-clause-there c = string_there _ _ c.string_at.ensures (rw c.string_at.ensures c.requires)
