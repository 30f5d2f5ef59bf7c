use Rattle.nit_word.proofs.Lemmas.{between_inked, in_turn, is_between, sight_set}
use Rattle.nit_word.proofs.inked.Inked.alternate.Goals as goal

pub invariant_of-self : goal.invariant_of-self
invariant_of-self c = (
  c.self.invariant.0,
  between_inked _ c.args.from c.args.to (in_turn c.args.from c.args.c c.args.d) _ _
      (rw (← c.self.view_is) at c.requires.words) c.self.invariant.1 c.alternate.ensures,
)

pub returns : goal.returns
returns c = sight_set (is_between c.args.from c.args.to) (in_turn c.args.from c.args.c c.args.d) _ _ _ _ _
    c.self.view_is c.alternate.ensures
