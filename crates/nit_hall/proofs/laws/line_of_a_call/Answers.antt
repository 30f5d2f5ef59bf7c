use Rattle.nit_hall.proofs.Lemmas.{line_counted}
use Rattle.nit_hall.proofs.laws.line_of_a_call.Goals as goal

pub returns : goal.returns
returns c = line_counted
