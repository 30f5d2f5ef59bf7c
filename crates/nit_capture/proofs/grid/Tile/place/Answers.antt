use Rattle.nit_capture.proofs.Lemmas.{arith, place_down, place_small, place_within}
use Rattle.nit_capture.specs.Tiles.{place}
use Rattle.nit_capture.proofs.grid.Tile.place.Goals as goal

pub overflow_add-down : goal.overflow_add-down
overflow_add-down c = grind (arith, place_down)

pub overflow_mul-result : goal.overflow_mul-result
unfolding place
overflow_mul-result c =
    let s = c.args.self.grid.size in
    let within = place_within _ _ c.args.self.number c.args.pixel s.some_columns c.args.self.in_picture
    c.requires.pixel in
    rw (c.wide-wide.ensures.value, c.top.ensures.value) (omega (arith, place_small _ _ s))

pub overflow_add-result : goal.overflow_add-result
unfolding place
overflow_add-result c =
    let s = c.args.self.grid.size in
    let within = place_within _ _ c.args.self.number c.args.pixel s.some_columns c.args.self.in_picture
    c.requires.pixel in
    rw (c.wide-wide.ensures.value, c.top.ensures.value, c.left.ensures.value) (omega (arith, place_small _ _ s))

pub returns-clause-within : goal.returns-clause-within
unfolding place
returns-clause-within c = grind (arith, place_within)
