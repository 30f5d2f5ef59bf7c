use Rattle.nit_config.proofs.Lemmas.{judged}
use Rattle.nit_config.proofs.laws.each_text_is_judged.Goals as goal

pub returns : goal.returns
returns c = judged
