use Rattle.nit_server.proofs.Lemmas.{placed, there, to_z-of_z}
use Rattle.nit_server.proofs.server.Server.place.Goals as goal

pub place-requires : goal.place-requires
place-requires c = there c.self.invariant.0 c.self.view_is c.slot-v.ensures

pub invariant_of-self : goal.invariant_of-self
invariant_of-self c = assumption (placed c.self.invariant.0 c.self.view_is c.slot-v.ensures c.requires.accepted
    (to_z-of_z _ _ c.ranges.x) (to_z-of_z _ _ c.ranges.y) c.of-rect.ensures c.place.ensures)

pub returns : goal.returns
returns c = (placed c.self.invariant.0 c.self.view_is c.slot-v.ensures c.requires.accepted (to_z-of_z _ _ c.ranges.x)
    (to_z-of_z _ _ c.ranges.y) c.of-rect.ensures c.place.ensures).served
