use Rattle.std.proofs.Common.{arith, length, ◌∙◌, ◌<◌}
use Rattle.nit_c.proofs.Lemmas.{length-set, part_past, part_told}
use Rattle.nit_c.proofs.damage.damage_of.Goals as goal

pub areas-preserved : goal.areas-preserved
areas-preserved c =
    let known = c.areas.invariant in
    let areas = c.as_slice-areas.result.now in
    let few = c.as_slice-areas.ensures in
    let room : c.areas.place < length c.areas.part =
    omega (arith, known.long, c.areas-test.true, rw (← few.areas) at few.parts.few) in
    record {
      long = length-set c.areas.part c.areas.place _ ∙ known.long;
      parts = part_told areas c.areas.part c.areas.place _ _ c.areas-test.true room c.part_of.ensures known.parts
          known.past;
      past = part_past areas c.areas.part c.areas.place _ _ c.areas-test.true room c.part_of.ensures known.parts
          known.past;
    }
