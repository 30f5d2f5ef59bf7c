use Rattle.nit_server.proofs.Lemmas.{backed, there}
use Rattle.nit_server.proofs.server.Server.back.Goals as goal

pub back-requires : goal.back-requires
back-requires c = there c.self.invariant.0 c.self.view_is c.slot-v.ensures

pub invariant_of-self : goal.invariant_of-self
invariant_of-self c = assumption (backed c.self.invariant.0 c.self.view_is c.slot-v.ensures c.requires.accepted
    c.back.ensures)

pub returns : goal.returns
returns c = (backed c.self.invariant.0 c.self.view_is c.slot-v.ensures c.requires.accepted c.back.ensures).served
