use Rattle.std.proofs.Common.{arith, length, ◌*◌, ◌+◌, ◌-◌, ◌≡◌}
use Rattle.nit_look.proofs.Lemmas.{kept_more, put_more, refl, row_of, row_within}
use Rattle.nit_look.proofs.putting.put_part.Goals as goal

pub slice_bounds-copy_from_slice-end-in-rows : goal.slice_bounds-copy_from_slice-end-in-rows
slice_bounds-copy_from_slice-end-in-rows c =
    omega (
      arith,
      row_within c.args.part.now c.args.width c.rows.row _ c.requires.across c.requires.wide
          c.rows-test.true c.requires.high,
    )

pub returns-then-wide-pitch : goal.returns-then-wide-pitch
returns-then-wide-pitch c =
    let width : c.args.width ≡ c.args.part.now.right = omega (arith, c.if-wide-width.true, c.requires) in
    let pitch : c.args.pitch ≡ c.args.part.now.right = omega (arith, c.if-wide-pitch.true, c.if-wide-width.true, width) in
    rw width (rw pitch c.put_at_once.ensures)

pub rows-preserved : goal.rows-preserved
rows-preserved c =
    let a = c.args.part.now in
    let from = (a.top + c.rows.row) * c.args.width + a.left in
    let wide = a.right - a.left in
    let end : c.rows.row * c.args.pitch + wide - c.rows.row * c.args.pitch ≡ wide = omega arith in
    let count : from + wide - from ≡ wide = omega arith in
    let at = row_of a c.args.pitch (length c.args.out.now) c.rows.row c.requires.room c.if-wide-eq0.false
    c.rows-test.true in
    let reach = row_within a c.args.width c.rows.row _ c.requires.across c.requires.wide c.rows-test.true
    c.requires.high in
    record {
      put = put_more a c.args.width c.args.pitch c.rows.row from _ _ c.args.frame.now c.args.out.now c.rows.out _
          c.rows.auto.out at refl end count reach c.copy_from_slice.ensures.after c.rows.invariant.put
          c.rows.invariant.kept;
      kept = kept_more a c.args.width c.args.pitch c.rows.row from _ _ c.args.frame.now c.args.out.now c.rows.out _
          c.rows.auto.out at refl end count reach c.copy_from_slice.ensures.after c.rows.invariant.put
          c.rows.invariant.kept;
    }

pub returns : goal.returns
returns c = record {
  put = λ r k below less. c.rows.invariant.put r k (omega (arith, c.rows-test.false)) less;
  kept = λ k none. c.rows.invariant.kept k (λ r j below less. none r j (omega (arith, c.rows.auto.row-end)) less);
}
