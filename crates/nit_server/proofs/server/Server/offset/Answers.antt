use Rattle.nit_server.proofs.Lemmas.{arith, nat_tests, offset_by, there, to_z-of_z}
use Rattle.nit_server.proofs.server.Server.offset.Goals as goal

pub offset-requires-clause-view : goal.offset-requires-clause-view
offset-requires-clause-view c = there c.self.invariant.0 c.self.view_is c.slot-v.ensures

pub offset-requires-clause-range : goal.offset-requires-clause-range
offset-requires-clause-range c = grind (arith, nat_tests, to_z-of_z)

pub invariant_of-self : goal.invariant_of-self
invariant_of-self c = assumption (offset_by c.self.invariant.0 c.self.view_is c.slot-v.ensures c.requires.accepted
    (to_z-of_z _ _ c.ranges.ox) (to_z-of_z _ _ c.ranges.oy) c.offset.ensures)

pub returns : goal.returns
returns c = (offset_by c.self.invariant.0 c.self.view_is c.slot-v.ensures c.requires.accepted
    (to_z-of_z _ _ c.ranges.ox) (to_z-of_z _ _ c.ranges.oy) c.offset.ensures).served
