use Rattle.nit_server.proofs.Lemmas.{taken}
use Rattle.nit_server.proofs.server.Server.take.Goals as goal

pub invariant_of-self : goal.invariant_of-self
invariant_of-self c = assumption (taken c.self.invariant.0 c.self.view_is c.requires.session c.index_mut.ensures.value
    c.requires.accepted c.take.ensures.session c.take.ensures.reply)

pub returns : goal.returns
returns c = (taken c.self.invariant.0 c.self.view_is c.requires.session c.index_mut.ensures.value c.requires.accepted
    c.take.ensures.session c.take.ensures.reply).served
