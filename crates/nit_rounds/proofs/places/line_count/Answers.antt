use Rattle.nit_rounds.proofs.Lemmas.{arith, client_long, nat_tests, user_long}
use Rattle.nit_rounds.proofs.places.line_count.Goals as goal

pub returns-then-actor-scripts-clause-count : goal.returns-then-actor-scripts-clause-count
returns-then-actor-scripts-clause-count c = grind (arith, nat_tests, client_long)

pub returns-else-actor-scripts-clause-count : goal.returns-else-actor-scripts-clause-count
returns-else-actor-scripts-clause-count c = grind (arith, nat_tests, user_long)
