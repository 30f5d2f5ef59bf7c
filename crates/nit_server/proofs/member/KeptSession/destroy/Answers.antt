use Rattle.nit_server.proofs.Lemmas.{arith, handles_without, nat_tests}
use Rattle.nit_server.proofs.member.KeptSession.destroy.Goals as goal

pub returns-clause-session : goal.returns-clause-session
returns-clause-session c = grind (arith, nat_tests, handles_without)
