use Rattle.nit_server.proofs.Lemmas.{fronted, there}
use Rattle.nit_server.proofs.server.Server.front.Goals as goal

pub front-requires : goal.front-requires
front-requires c = there c.self.invariant.0 c.self.view_is c.slot-v.ensures

pub invariant_of-self : goal.invariant_of-self
invariant_of-self c = assumption (fronted c.self.invariant.0 c.self.view_is c.slot-v.ensures c.requires.accepted
    c.front.ensures)

pub returns : goal.returns
returns c = (fronted c.self.invariant.0 c.self.view_is c.slot-v.ensures c.requires.accepted c.front.ensures).served
