use Rattle.nit_screen.proofs.Lemmas.{arith, has-name, nat_tests}
use Rattle.nit_screen.proofs.screen.views.view_before.Goals as goal

pub view-requires : goal.view-requires
view-requires c = grind (arith, nat_tests, has-name)

pub returns-clause-seat : goal.returns-clause-seat
returns-clause-seat c = grind (arith, nat_tests)
