use Rattle.nit_hall.proofs.Lemmas.{arith, nat_tests, open_whole}
use Rattle.nit_hall.proofs.hall.Hall.wait_ready.Goals as goal

pub returns : goal.returns
returns g c = grind (arith, nat_tests, open_whole)
