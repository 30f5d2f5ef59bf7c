use Rattle.nit_capture.proofs.Lemmas.{arith, cut_row_within, on_screen, place_is, place_small, refl}
use Rattle.nit_capture.specs.Crop.{crop_row_place}
use Rattle.nit_capture.proofs.cut.row_start.Goals as goal

pub overflow_add-result : goal.overflow_add-result
overflow_add-result c =
    let y = place_is _ _ _ c.y.ensures.range c.y.ensures.value c.natural.ensures in
    let on = on_screen _ _ _ c.requires.screen in
    omega (arith, on.bottom, c.requires.row, c.args.grid.size.rows)

pub overflow_mul-result : goal.overflow_mul-result
unfolding crop_row_place
overflow_mul-result c =
    let y = place_is _ _ _ c.y.ensures.range c.y.ensures.value c.natural.ensures in
    let within = cut_row_within _ _ _ c.args.row c.requires.screen c.requires.row in
    rw y (omega (arith, place_small _ _ c.args.grid.size))

pub overflow_add-result-2 : goal.overflow_add-result-2
unfolding crop_row_place
overflow_add-result-2 c =
    let y = place_is _ _ _ c.y.ensures.range c.y.ensures.value c.natural.ensures in
    let x = place_is _ _ _ c.x.ensures.range c.x.ensures.value c.natural-2.ensures in
    let within = cut_row_within _ _ _ c.args.row c.requires.screen c.requires.row in
    rw (y, x) (omega (arith, place_small _ _ c.args.grid.size))

pub returns : goal.returns
unfolding crop_row_place
returns c =
    let y = place_is _ _ _ c.y.ensures.range c.y.ensures.value c.natural.ensures in
    let x = place_is _ _ _ c.x.ensures.range c.x.ensures.value c.natural-2.ensures in
    rw (y, x) (record {
      value = refl;
      within = cut_row_within _ _ _ c.args.row c.requires.screen c.requires.row;
      small = place_small _ _ c.args.grid.size;
    })
