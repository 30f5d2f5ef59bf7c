use Rattle.nit_screen.proofs.Lemmas.{keeps_inked}
use Rattle.nit_screen.proofs.laws.ink_stays.Goals as goal

pub returns : goal.returns
returns c = keeps_inked c.deliveries_fit.ensures
