use Rattle.nit_paint.proofs.Lemmas.{repainted_none}
use Rattle.nit_paint.proofs.laws.nothing_repainted.Goals as goal

pub returns : goal.returns
returns c = repainted_none
