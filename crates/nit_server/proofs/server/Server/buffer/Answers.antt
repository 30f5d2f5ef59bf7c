use Rattle.nit_server.proofs.Lemmas.{buffered}
use Rattle.nit_server.proofs.server.Server.buffer.Goals as goal

pub invariant_of-self : goal.invariant_of-self
invariant_of-self c = assumption (buffered c.self.invariant.0 c.self.view_is c.requires.session
    c.index_mut.ensures.value c.requires.accepted c.buffer.ensures c.set_buffer.ensures)

pub returns : goal.returns
returns c = (buffered c.self.invariant.0 c.self.view_is c.requires.session c.index_mut.ensures.value
    c.requires.accepted c.buffer.ensures c.set_buffer.ensures).served
