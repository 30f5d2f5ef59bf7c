use Rattle.nit_capture.proofs.Lemmas.{arith, pixel_in_row, span_is}
use Rattle.nit_capture.proofs.cut.row_bytes.Goals as goal

pub returns-clause-pixels : goal.returns-clause-pixels
returns-clause-pixels c = grind (arith, span_is, pixel_in_row)
