use Rattle.nit_word.proofs.Lemmas.{List, ap, arith, first_turn, in_turn, next_between, none_between}
use Rattle.nit_word.proofs.Lemmas.{second_turn, set, ℕ, ◌∙◌}
use Rattle.nit_word.proofs.setting.take_turns.Goals.{then-i-eq0, else-i-eq0}
use Rattle.nit_word.proofs.setting.take_turns.Goals as goal

pub words-init : goal.words-init
words-init c = none_between 0 (in_turn 0 c.args.c c.args.d) c.args.words.now

pub words-preserved : goal.words-preserved
words-preserved c =
    ap (λ (ws : List ℕ). set ws c.words.i c.if-i-eq0.word) c.words.invariant
    ∙ next_between 0 c.words.i c.if-i-eq0.word (in_turn 0 c.args.c c.args.d) c.args.words.now (omega arith)
    (elim c.if-i-eq0.branch [
      | then-i-eq0 w ↦ w.word-is ∙ first_turn c.args.c c.args.d c.words.i w.if-i-eq0.true
      | else-i-eq0 w ↦ w.word-is ∙ second_turn c.args.c c.args.d c.words.i w.if-i-eq0.false
    ])
