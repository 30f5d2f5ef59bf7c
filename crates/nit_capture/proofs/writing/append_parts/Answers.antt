use Rattle.nit_capture.proofs.Lemmas.{arith, number_set}
use Rattle.nit_capture.proofs.writing.append_parts.Goals as goal

pub returns : goal.returns
returns c = grind (arith, number_set)
