use Rattle.nit_server.proofs.Lemmas.{is_serving}
use Rattle.nit_server.proofs.server.Server.stack.Goals as goal

pub returns-clause-facts : goal.returns-clause-facts
returns-clause-facts c = rw (← c.self.view_is) (is_serving c.self.invariant.0 c.self.invariant.1)
