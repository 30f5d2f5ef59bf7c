use Rattle.nit_word.proofs.Lemmas.{between_inked, is_between, sight_set}
use Rattle.nit_word.proofs.inked.Inked.fill.Goals as goal

pub invariant_of-self : goal.invariant_of-self
invariant_of-self c = (
  c.self.invariant.0,
  between_inked _ c.args.from c.args.to (λ n. c.args.w) _ _ (rw (← c.self.view_is) at c.requires.word)
      c.self.invariant.1 c.fill.ensures,
)

pub returns : goal.returns
returns c =
    sight_set (is_between c.args.from c.args.to) (λ n. c.args.w) _ _ _ _ _ c.self.view_is c.fill.ensures
