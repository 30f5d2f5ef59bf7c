use Rattle.std.proofs.Common.{arith, length, ◌*◌, ◌+◌, ◌-◌, ◌≡◌, ◌≤◌}
use Rattle.nit_look.proofs.Lemmas.{copied_more, drop, length-drop, length-take, mul_comm}
use Rattle.nit_look.proofs.Lemmas.{nothing_yet, refl, row_fits, ◌∙◌}
use Rattle.nit_look.proofs.picture.copy.Goals as goal

pub loop-row-init : goal.loop-row-init
loop-row-init c = record {
  copied = nothing_yet c.args.width c.args.columns.0 c.args.columns.1 c.args.rows.0 c.args.frame.now c.args.out.now;
  edges = λ k lt. refl;
}

pub loop-row-preserved : goal.loop-row-preserved
loop-row-preserved c =
    let width = c.args.width in
    let row = c.loop-row.row in
    let out = c.loop-row.out in
    let part = c.copy_columns-span.new.out in
    let known = c.loop-row.invariant in
    let long = c.loop-row.auto.out ∙ c.requires.out in
    let wide : row * width + width - row * width ≡ width = omega arith in
    let fits = row_fits row width c.args.rows.1 width c.loop-row-test.true (omega arith) in
    let room : (row + 1) * width ≤ length c.args.frame.now = omega (arith, mul_comm width c.args.rows.1) in
    let held : length part ≡ width = omega (
      arith,
      c.copy_columns-span.auto.out,
      length-take (row * width + width - row * width) (drop (row * width) out),
      length-drop (row * width) out,
    ) in
    let more = copied_more width c.args.columns.0 c.args.columns.1 c.args.rows.0 row _ c.args.frame.now c.args.out.now
    out part c.requires.some c.loop-row.auto.row wide room long c.requires.out held known.copied
    (rw wide at c.copy_columns-span.ensures.copied) c.loop-row.found known.edges c.copy_columns-span.result
    (rw wide at c.copy_columns-span.ensures.span) in
    record { copied = more.0; edges = c.with_row-found.ensures width _ c.args.out.now more.1 more.2 }
