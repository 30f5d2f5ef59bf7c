use Rattle.nit_capture.proofs.Lemmas.{one_stream}
use Rattle.nit_capture.proofs.laws.film_is_one.Goals as goal

pub returns : goal.returns
returns c = one_stream
