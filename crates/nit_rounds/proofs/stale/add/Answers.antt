use Rattle.nit_rounds.proofs.Lemmas.{arith, copied_first, glass_there, nat_tests}
use Rattle.nit_rounds.proofs.stale.add.Goals as goal

pub returns-clause-behind : goal.returns-clause-behind
returns-clause-behind c = grind (arith, nat_tests, copied_first, glass_there)
