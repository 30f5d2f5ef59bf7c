use Rattle.nit_word.proofs.Lemmas.{MappedTo}
use Rattle.nit_word.proofs.shade.shade_words.Given as goal

abbrev pub invariant-words : goal.invariant-words
invariant-words g l = MappedTo g.S.Shade.shade l.fn.row l.w-index l.row
