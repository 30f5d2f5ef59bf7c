use Rattle.nit_word.proofs.Lemmas.{sym, whole_long}
use Rattle.nit_word.proofs.words.Words.reached.Goals as goal

pub returns : goal.returns
returns c = rw (whole_long _ _ _ c.self.view_is c.self.invariant.0, c.deref.ensures.value) (sym c.self.view_is)
