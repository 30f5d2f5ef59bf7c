use Rattle.nit_host.proofs.Lemmas.{append-nil, arith, nat_tests, take_all}
use Rattle.nit_word.specs.Zeros.{zeros}
use Rattle.nit_host.proofs.sheet.reach.Goals as goal

pub returns-then-len-count-clause-items : goal.returns-then-len-count-clause-items
unfolding zeros
returns-then-len-count-clause-items c = grind (arith, nat_tests, take_all)

pub returns-else-len-count-clause-items : goal.returns-else-len-count-clause-items
unfolding zeros
returns-else-len-count-clause-items c = grind (arith, nat_tests, append-nil)
