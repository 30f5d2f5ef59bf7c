use Rattle.nit_capture.proofs.Lemmas.{goes_on}
use Rattle.nit_capture.proofs.laws.film_goes_on.Goals as goal

pub returns : goal.returns
returns c = goes_on
