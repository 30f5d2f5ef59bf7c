use Rattle.nit_word.proofs.Lemmas.{all_fit, at_any, reached_inked}
use Rattle.nit_word.proofs.inked.Inked.words.Goals as goal

pub returns-clause-inked : goal.returns-clause-inked
returns-clause-inked c =
    let inked = reached_inked _ _ _ _ c.reached.ensures c.self.invariant.1 in
    rw (← c.self.view_is) (λ i first last. at_any _ _ i inked)

pub returns-clause-fits : goal.returns-clause-fits
returns-clause-fits c = all_fit _ _ c.self.invariant.0 (reached_inked _ _ _ _ c.reached.ensures c.self.invariant.1)
