use Rattle.nit_word.proofs.Lemmas.{zeros_inked}
use Rattle.nit_word.proofs.inked.Inked.blank.Goals as goal

pub invariant_of-result : goal.invariant_of-result
invariant_of-result c = (c.requires.ink, zeros_inked _ c.args.size _ c.in_ok-blank.ensures)
