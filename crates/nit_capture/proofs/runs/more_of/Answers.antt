use Rattle.nit_capture.proofs.Lemmas.{take_rest}
use Rattle.nit_capture.proofs.runs.more_of.Goals as goal

pub returns-clause-value : goal.returns-clause-value
returns-clause-value c = rw (take_rest c.args.words.now 1) at c.same_in_front.ensures.value
