use Rattle.nit_server.proofs.Lemmas.{upgraded}
use Rattle.nit_server.proofs.server.Server.upgrade.Goals as goal

pub invariant_of-self : goal.invariant_of-self
invariant_of-self c = assumption (upgraded c.self.invariant.0 c.self.view_is c.requires.session
    c.index_mut.ensures.value c.requires.accepted c.upgrade.ensures)

pub returns : goal.returns
returns c = (upgraded c.self.invariant.0 c.self.view_is c.requires.session c.index_mut.ensures.value
    c.requires.accepted c.upgrade.ensures).served
