use Rattle.std.proofs.Common.{ap, arith, ◌*◌, ◌+◌, ◌<◌, ◌≡◌, ◌≤◌}
use Rattle.nit_overlay.proofs.Lemmas.{bar_done, bar_word, mul-le-mul_right, next_of, point, scenery}
use Rattle.nit_overlay.proofs.bar.bar_into.Goals as goal

pub rows-preserved : goal.rows-preserved
rows-preserved c =
    let width = c.size-width.result.0 in
    let stack = c.args.lettered.now.look.stack.now in
    let wide : width ≡ stack.width = ap (λ size. size.0) c.size-width.ensures.size in
    let high : c.size-width.result.1 ≡ stack.height = ap (λ size. size.1) c.size-width.ensures.size in
    let below : c.rows.y < stack.bar = omega (arith, c.rows-test.true, c.bar-y-end.ensures.rows) in
    let far : c.rows.y + 1 ≤ stack.height =
    omega (arith, high, c.rows-test.true, c.bar-y-end.ensures.range, c.size-width.ensures.range) in
    let row : (c.rows.y + 1) * width ≤ stack.height * width = mul-le-mul_right width far in
    let count : width * stack.height ≡ stack.width * stack.height = ap (λ n. n * stack.height) wide in
    next_of (λ x y w. bar_word (scenery c.args.lettered.now) (point x y)) c.rows.invariant (c.overlay_bar.ensures _)
    (omega arith) (omega arith) below (omega (arith, row, count, c.requires.out, c.rows.auto.out)) (omega arith)

pub returns-clause-pixels : goal.returns-clause-pixels
returns-clause-pixels c =
    let width = c.size-width.result.0 in
    let stack = c.args.lettered.now.look.stack.now in
    let s = scenery c.args.lettered.now in
    let wide : width ≡ stack.width = ap (λ size. size.0) c.size-width.ensures.size in
    let done : c.rows.y ≡ stack.bar =
    omega (arith, c.rows.invariant.inside, c.rows-test.false, c.bar-y-end.ensures.rows) in
    rw wide at (bar_done s width stack.bar c.args.out.now c.rows.out (omega (arith, c.size-width.ensures.range))
    (rw done at c.rows.invariant))
