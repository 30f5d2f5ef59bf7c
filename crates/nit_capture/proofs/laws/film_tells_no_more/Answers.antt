use Rattle.nit_capture.proofs.Lemmas.{same_film}
use Rattle.nit_capture.proofs.laws.film_tells_no_more.Goals as goal

pub returns : goal.returns
returns c = same_film
