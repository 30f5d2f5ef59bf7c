use Rattle.std.proofs.Common.{refl, ◌+◌, ◌<◌, ◌*◌}
use Rattle.std.proofs.lemmas.Nat.{mul-add-lt}
use Rattle.nit_overlay.proofs.AreaLemmas.{one_pixel}
use Rattle.nit_overlay.proofs.Lemmas.{ap, arith, more_columns, no_columns, point, scenery, shown}
use Rattle.nit_overlay.proofs.mapped.short_runs.Goals as goal

pub pixels-init : goal.pixels-init
pixels-init c = no_columns c.requires.area.area.across

pub pixels-preserved : goal.pixels-preserved
pixels-preserved c =
    let l = c.args.lettered.now in
    let s = l.look.stack.now in
    let row = c.args.row.now in
    let x = c.pixels.x in
    let wide = ap (λ size. size.0) c.size-width.ensures.size in
    let area = c.requires.area in
    let left : x < s.width = omega (arith, area.area.right, c.pixels-test.true) in
    let above : row.top < s.height = omega (arith, area.area.bottom, c.requires.one) in
    let within : row.top * s.width + x < s.width * s.height = mul-add-lt row.top s.width x s.height above left in
    rw wide (more_columns c.pixels.invariant (omega arith) (omega (arith, c.pixels-test.true))
    (one_pixel (λ x y w. shown (scenery l) (point x y) w) (record row { left = x; right = x + 1 }) s.width
    c.in-Some.word refl c.requires.one left
    (omega (arith, within, area.same_length, area.count, c.pixels.auto.out)) within
    (rw wide at c.in-Some.ensures)))
