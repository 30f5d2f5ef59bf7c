use Rattle.std.proofs.Common.{ap, arith, ℕ, ◌≡◌}
use Rattle.nit_overlay.proofs.Lemmas.{area_as, in_rows, more_rows, no_rows, point, scenery}
use Rattle.nit_overlay.proofs.Lemmas.{stripe_rule, view_word, word_by}
use Rattle.nit_overlay.proofs.piece.overlay_view.Goals as goal

pub bands-init : goal.bands-init
bands-init c = no_rows c.requires.area.area.down

pub bands-preserved : goal.bands-preserved
bands-preserved c =
    let band = c.band_at-band.result in
    let rows = record c.args.area.now { top = c.bands.y; bottom = band.end } in
    let f = λ (x y w : ℕ). view_word c.args.lettered.now.look.mode (scenery c.args.lettered.now) c.args.owner.now.view (point x y) w
    in
    more_rows c.bands.invariant (omega arith) c.band_at-band.ensures.within
    (area_as (λ x y w. word_by (stripe_rule band.stripe x) x y w) f rows c.size-width.result.0
    (λ x y w on. let at = in_rows rows x y on in c.band_at-band.ensures.words x y w at.0 at.1) c.overlay_band.ensures)

pub returns : goal.returns
returns c =
    let i = c.bands.invariant in
    let done : c.bands.y ≡ c.args.area.now.bottom = omega (arith, i.inside, c.bands-test.false) in
    let wide = ap (λ size. size.0) c.size-width.ensures.size in
    rw (done, wide) at i.painted
