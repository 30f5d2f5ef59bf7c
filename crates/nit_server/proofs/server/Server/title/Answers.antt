use Rattle.nit_server.proofs.Lemmas.{there, titled, ◌∙◌}
use Rattle.nit_server.proofs.server.Server.title.Goals as goal

pub title-requires : goal.title-requires
title-requires c = there c.self.invariant.0 c.self.view_is c.slot-v.ensures

pub invariant_of-self : goal.invariant_of-self
invariant_of-self c = assumption (titled c.self.invariant.0 c.self.view_is c.slot-v.ensures c.requires.accepted
    (c.of.ensures ∙ c.as_bytes.ensures.value) c.title.ensures)

pub returns : goal.returns
returns c = (titled c.self.invariant.0 c.self.view_is c.slot-v.ensures c.requires.accepted
    (c.of.ensures ∙ c.as_bytes.ensures.value) c.title.ensures).served
