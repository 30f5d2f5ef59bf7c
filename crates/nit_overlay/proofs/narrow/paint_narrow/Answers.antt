use Rattle.std.proofs.Common.{arith, ◌*◌, ◌+◌, ◌≡◌, ◌≤◌}
use Rattle.nit_overlay.proofs.Lemmas.{last_row, mul-le-mul_right, next_of, stripe_rule, word_by}
use Rattle.nit_overlay.proofs.narrow.paint_narrow.Goals as goal

pub rows-preserved : goal.rows-preserved
rows-preserved c =
    let width = c.args.width in
    let row : (c.rows.y + 1) * width ≤ c.args.area.now.bottom * width = mul-le-mul_right width (omega arith) in
    next_of (λ x y w. word_by (stripe_rule c.args.stripe.now x) x y w) c.rows.invariant
    (rw c.row.ensures at c.paint_pixels.ensures)
    c.requires.area.area.across c.requires.area.area.right c.rows-test.true (omega arith) (omega arith)

pub returns : goal.returns
returns c =
    let width = c.args.width in
    let done : c.rows.y ≡ c.args.area.now.bottom = omega (arith, c.rows.invariant.inside) in
    last_row (rw done at c.rows.invariant) (omega arith) c.requires.area.within
