use Rattle.nit_host.proofs.Lemmas.{arith, nat_tests, one_shown}
use Rattle.nit_host.proofs.host.shown.remember.Goals as goal

pub views-preserved : goal.views-preserved
views-preserved c = grind (arith, nat_tests, one_shown)
