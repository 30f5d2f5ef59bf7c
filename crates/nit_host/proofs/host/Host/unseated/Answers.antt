use Rattle.nit_host.proofs.Lemmas.{arith, free_not_taken, free_of, label_decides, nat_tests}
use Rattle.nit_host.proofs.Lemmas.{true_from_ne_false}
use Rattle.nit_host.proofs.host.Host.unseated.Goals as goal

pub returns-then-not-is_free : goal.returns-then-not-is_free
returns-then-not-is_free c = grind (arith, nat_tests, label_decides, true_from_ne_false, free_of)

pub returns-then-self-ge-MOST_COMINGS : goal.returns-then-self-ge-MOST_COMINGS
returns-then-self-ge-MOST_COMINGS c = grind (arith, nat_tests, label_decides, free_not_taken)

pub returns-else-self-ge-MOST_COMINGS : goal.returns-else-self-ge-MOST_COMINGS
returns-else-self-ge-MOST_COMINGS c = grind (arith, nat_tests, label_decides, free_not_taken)
