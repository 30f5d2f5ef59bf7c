use Rattle.nit_word.proofs.Lemmas.{place_loaded}
use Rattle.nit_word.proofs.inked.InkedGlass.load.Goals as goal

pub returns-clause-loaded : goal.returns-clause-loaded
returns-clause-loaded c =
    rw (← c.self.view_is) (place_loaded _ _ _ _ _ c.self.invariant.0 c.self.invariant.1
    (rw (← c.self.view_is) at c.requires) c.get.ensures)
