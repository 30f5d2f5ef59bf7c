use Rattle.std.proofs.Common.{length, mul_comm, sym, ◌*◌, ◌+◌, ◌∙◌, ◌≤◌}
use Rattle.nit_capture.proofs.Lemmas.{all_cut, arith, crop_pixel, cut_is_picture, part_long}
use Rattle.nit_capture.proofs.Lemmas.{row_fits, row_put, span_is, word_of_bytes}
use Rattle.nit_capture.proofs.cut.cut_rows.Goals as goal

pub loop-row-preserved : goal.loop-row-preserved
loop-row-preserved c =
    let r = c.args.rect.now in
    let row = c.loop-row.row in
    let test = c.loop-row-test.true in
    let fits = row_fits row r.w r.h r.w (omega (arith, c.h-row-end.ensures.value)) (omega arith) in
    let size = c.loop-row.auto.into ∙ c.requires.room in
    let room : row * r.w + r.w ≤ length c.loop-row.into = omega (arith, fits, mul_comm r.w r.h, size) in
    let part = rw (span_is, c.w-wide.ensures.value, part_long c.loop-row.into (row * r.w) r.w room) at
    c.words_into.ensures in
    rw c.w-wide.ensures.value (row_put (crop_pixel c.args.grid.width c.args.grid.height r c.args.ppm.now)
    (λ k. word_of_bytes c.row_bytes.result.now (3 * k)) row r.w _ c.loop-row.into c.words_into.new.into
    room c.loop-row.invariant part (λ j below. sym (c.row_bytes.ensures.pixels j below)))

pub returns : goal.returns
returns c =
    let test = c.loop-row-test.false in
    let r = c.args.rect.now in
    let size = c.loop-row.auto.into ∙ c.requires.room in
    let value = all_cut _ _ r c.args.ppm.now _ c.loop-row.row size
    (omega (arith, c.loop-row.auto.row-end, c.h-row-end.ensures.value)) (omega (arith, c.h-row-end.ensures.value))
    c.loop-row.invariant in
    record { value = value; picture = cut_is_picture _ _ r _ _ (λ i. (c.type_inv.ppm i).fits) size value }
