use Rattle.nit_look.proofs.Lemmas.{one_more_in, one_more_on, refl}
use Rattle.nit_look.proofs.parts.Parts.around.Goals as goal

pub returns-then-is_empty-clause-area : goal.returns-then-is_empty-clause-area
returns-then-is_empty-clause-area c = λ width height all. c.none.ensures.area width height

pub areas-preserved : goal.areas-preserved
areas-preserved c =
    let areas = c.as_slice-areas.result.now in
    let known = c.areas.invariant in
    rw c.around-all.ensures (record {
      area = λ width height on. one_more_on areas c.areas.place _ _ c.areas.all c.areas-test.true refl width height on
          (known.area width height on);
      all = one_more_in areas c.areas.place _ _ c.areas.all c.areas-test.true refl known.all;
    })
