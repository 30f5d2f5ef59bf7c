use Rattle.nit_screen.proofs.Lemmas.{keeps_source}
use Rattle.nit_screen.proofs.laws.clean_pixels_keep_their_source.Goals as goal

pub returns : goal.returns
returns c = keeps_source c.deliveries_fit.ensures
