use Rattle.nit_plan.proofs.Lemmas.{left_inked, word_inked}
use Rattle.nit_plan.proofs.laws.words_inked.Goals as goal

pub returns : goal.returns
returns c = assumption (word_inked, left_inked)
