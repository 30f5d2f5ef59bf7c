use Rattle.std.proofs.Common.{length, ◌+◌, ◌<◌, ◌∙◌, ◌≤◌}
use Rattle.nit_capture.proofs.Lemmas.{ap, arith, high, part_is, part_long, place, place_in_row}
use Rattle.nit_capture.proofs.Lemmas.{put_long, row_place, row_put, row_room, row_within}
use Rattle.nit_capture.proofs.Lemmas.{slice_index, span_is, wide}
use Rattle.nit_capture.specs.Tiles.{area}
use Rattle.nit_capture.proofs.writing.tile_words.Goals as goal

pub loop-row-preserved : goal.loop-row-preserved
loop-row-preserved c =
    let w = c.args.which.grid.width in
    let h = c.args.which.grid.height in
    let t = c.args.which.number in
    let some = c.args.which.grid.size.some_columns in
    let test = c.loop-row-test.true in
    let lt : c.loop-row.row < high w h t = omega (arith, c.high-row-end.ensures.value) in
    let room = row_room w h t c.loop-row.row some c.args.which.in_picture lt in
    let p = c.args.picture.now in
    let at = row_place w t c.loop-row.row in
    let fits : at + wide w t ≤ length p =
    omega (arith, row_within w h t c.loop-row.row some c.args.which.in_picture lt, c.requires) in
    let part = rw (span_is, c.row-at.ensures.value, c.wide-wide.ensures.value) at c.copy_from_slice.ensures.after in
    let long = rw (← part) at (part_long p at (wide w t) fits) in
    rw c.wide-wide.ensures.value (record {
      value = row_put (λ j. slice_index p (place w t j)) (λ j. slice_index p (at + j)) c.loop-row.row (wide w t) _
          c.loop-row.words _ (omega (arith, room, c.loop-row.invariant.size)) c.loop-row.invariant.value
          (part ∙ part_is p at (wide w t) fits)
          (λ j small. ap (slice_index p) (place_in_row w t c.loop-row.row j small));
      size = put_long _ _ c.loop-row.words c.copy_from_slice.new.self (omega (arith, room, c.loop-row.invariant.size))
          (omega (arith, long)) ∙ c.loop-row.invariant.size;
    })

pub returns : goal.returns
unfolding area
returns c = grind arith
