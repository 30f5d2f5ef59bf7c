use Rattle.nit_capture.proofs.Lemmas.{arith, words_more}
use Rattle.nit_capture.proofs.cut.words_into.Goals as goal

pub loop-pixel-preserved : goal.loop-pixel-preserved
loop-pixel-preserved c = grind (arith, words_more)
