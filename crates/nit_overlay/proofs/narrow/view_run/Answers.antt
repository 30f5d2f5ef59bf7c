use Rattle.std.proofs.Common.{◌≡◌}
use Rattle.nit_overlay.proofs.Lemmas.{ap, area_as, arith, in_columns, in_rows, point, scenery}
use Rattle.nit_overlay.proofs.Lemmas.{shown, stripe_rule, word_by}
use Rattle.nit_overlay.proofs.narrow.view_run.Goals as goal

pub returns : goal.returns
returns c =
    let s = scenery c.args.lettered.now in
    let row = c.args.row.now in
    let wide = ap (λ size. size.0) c.size-width.ensures.size in
    rw c.requires.area.count at
    (area_as (λ x y w. word_by (stripe_rule c.plain_stripe-stripe.result x) x y w) (λ x y w. shown s (point x y) w) row
    s.width
    (λ x y w on.
    let is : y ≡ row.top = omega (arith, in_rows row x y on, c.requires.one) in
    rw is (c.plain_stripe-stripe.ensures.words x w row.right (rw is at (c.requires.owner x y on))
    (in_columns row x y on).1 (c.is_narrow.ensures c.if-not-is_narrow.false)))
    (rw wide at c.paint_narrow.ensures))
