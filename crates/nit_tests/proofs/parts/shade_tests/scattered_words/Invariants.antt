use Rattle.std.specs.Prelude.{All}
use Rattle.nit_word.specs.Inks.{IsWord}
use Rattle.nit_tests.proofs.parts.shade_tests.scattered_words.Given as goal

abbrev pub invariant-words : goal.invariant-words
invariant-words g l = All IsWord l.words.items
