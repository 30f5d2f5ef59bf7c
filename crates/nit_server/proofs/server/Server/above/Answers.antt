use Rattle.nit_server.proofs.Lemmas.{put_above_next, same_layer, there}
use Rattle.nit_server.proofs.server.Server.above.Goals as goal

pub above-requires : goal.above-requires
above-requires c = record {
  moved = there c.self.invariant.0 c.self.view_is c.slot-v.ensures;
  behind = there c.self.invariant.0 c.self.view_is c.slot-n.ensures;
  layer = same_layer c.self.invariant.0 c.self.view_is c.slot-v.ensures c.slot-n.ensures;
}

pub invariant_of-self : goal.invariant_of-self
invariant_of-self c = assumption (put_above_next c.self.invariant.0 c.self.view_is c.slot-v.ensures c.slot-n.ensures
    c.requires.accepted c.above.ensures)

pub returns : goal.returns
returns c = (put_above_next c.self.invariant.0 c.self.view_is c.slot-v.ensures c.slot-n.ensures c.requires.accepted
    c.above.ensures).served
