use Rattle.nit_perform.proofs.Lemmas.{length}
use Rattle.nit_perform.proofs.pairs.+pair_up.Given as goal

abbrev pub decreases-pair_up : goal.decreases-pair_up
decreases-pair_up l = length l.passes.now.items
