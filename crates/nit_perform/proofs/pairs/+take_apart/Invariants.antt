use Rattle.nit_perform.proofs.Lemmas.{length}
use Rattle.nit_perform.proofs.pairs.+take_apart.Given as goal

abbrev pub decreases-take_apart : goal.decreases-take_apart
decreases-take_apart l = length l.pairs.now.items
