use Rattle.nit_rounds.proofs.Lemmas.{drawn_counted, drawn_each, shots_drawn}
use Rattle.nit_rounds.proofs.laws.shots_as_replayed.Goals as goal

pub returns : goal.returns
returns c = record { count = drawn_counted; each = drawn_each; along = shots_drawn }
