use Rattle.std.proofs.Common.{◌≡◌}
use Rattle.nit_word.proofs.Lemmas.{in_turn, is_between, set_where}
use Rattle.nit_word.proofs.setting.take_turns.Given as goal

abbrev pub invariant-words : goal.invariant-words
invariant-words l = l.words ≡ set_where (is_between 0 l.i) (in_turn 0 l.c l.d) l.fn.words
