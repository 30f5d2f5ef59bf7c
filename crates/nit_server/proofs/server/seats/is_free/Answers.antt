use Rattle.nit_server.proofs.Lemmas.{arith, bytes_eq-Decides, get_or_default, nat_tests}
use Rattle.nit_server.proofs.Lemmas.{not_from_Decides}
use Rattle.nit_server.proofs.server.seats.is_free.Goals as goal

pub clients-preserved : goal.clients-preserved
clients-preserved c = grind (arith, nat_tests, not_from_Decides, bytes_eq-Decides, get_or_default)
