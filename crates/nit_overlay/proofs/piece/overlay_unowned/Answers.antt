use Rattle.std.proofs.Common.{ap, arith, length, ◌*◌, ◌+◌, ◌≡◌, ◌≤◌}
use Rattle.nit_overlay.proofs.Lemmas.{last_row, mul-le-mul_right, next_of, point, scenery}
use Rattle.nit_overlay.proofs.AreaLemmas.{no_row}
use Rattle.nit_overlay.proofs.Lemmas.{unowned_word}
use Rattle.nit_overlay.proofs.piece.overlay_unowned.Goals as goal

pub rows-init : goal.rows-init
rows-init c = no_row (omega arith) c.requires.area.down

pub rows-preserved : goal.rows-preserved
rows-preserved c =
    let width = c.size-width.result.0 in
    let stack = c.args.lettered.now.look.stack.now in
    let wide : width ≡ stack.width = ap (λ size. size.0) c.size-width.ensures.size in
    let row : (c.rows.y + 1) * width ≤ stack.height * width = mul-le-mul_right width (omega arith) in
    let count : width * stack.height ≡ stack.width * stack.height = ap (λ n. n * stack.height) wide in
    next_of (λ x y w. unowned_word (scenery c.args.lettered.now) (point x y)) c.rows.invariant
    (rw c.row.ensures at c.bare_row.ensures) c.requires.area.across (omega arith) c.rows-test.true (omega arith)
    (omega arith)

pub returns : goal.returns
returns c =
    let width = c.size-width.result.0 in
    let stack = c.args.lettered.now.look.stack.now in
    let wide : width ≡ stack.width = ap (λ size. size.0) c.size-width.ensures.size in
    let row : c.args.area.now.bottom * width ≤ stack.height * width =
    mul-le-mul_right width c.requires.area.bottom in
    let count : width * stack.height ≡ stack.width * stack.height = ap (λ n. n * stack.height) wide in
    let done : c.rows.y ≡ c.args.area.now.bottom = omega (arith, c.rows.invariant.inside) in
    rw wide at (last_row {count = length c.args.raw.now} (rw done at c.rows.invariant) (omega arith) (omega arith))
