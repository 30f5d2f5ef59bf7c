use Rattle.nit_word.proofs.Lemmas.{arith, word_mapped}
use Rattle.nit_word.proofs.shade.shade_words.Goals as goal

pub words-preserved : goal.words-preserved
words-preserved g c = word_mapped _ _ _ _ _ c.words.invariant c.words-test.true (omega arith) c.word.ensures
