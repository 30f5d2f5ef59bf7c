use Rattle.nit_capture.proofs.Lemmas.{arith, high_some, place_small, row_within}
use Rattle.nit_capture.specs.Tiles.{row_place}
use Rattle.nit_capture.proofs.grid.Tile.row.Goals as goal

pub overflow_add-result : goal.overflow_add-result
overflow_add-result c = grind (arith, high_some)

pub overflow_mul-result : goal.overflow_mul-result
unfolding row_place
overflow_mul-result c =
    let s = c.args.self.grid.size in
    let within = row_within _ _ c.args.self.number c.args.row s.some_columns c.args.self.in_picture c.requires.row in
    rw c.top.ensures.value (omega (arith, place_small _ _ s))

pub overflow_add-result-2 : goal.overflow_add-result-2
unfolding row_place
overflow_add-result-2 c =
    let s = c.args.self.grid.size in
    let within = row_within _ _ c.args.self.number c.args.row s.some_columns c.args.self.in_picture c.requires.row in
    rw (c.top.ensures.value, c.left.ensures.value) (omega (arith, place_small _ _ s))

pub returns-clause-within : goal.returns-clause-within
unfolding row_place
returns-clause-within c = grind (arith, row_within)
