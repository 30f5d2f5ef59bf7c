use Rattle.nit_server.proofs.Lemmas.{is_serving}
use Rattle.nit_server.proofs.server.Server.facts.Goals as goal

pub returns : goal.returns
returns c = rw (← c.self.view_is) (is_serving c.self.invariant.0 c.self.invariant.1)
