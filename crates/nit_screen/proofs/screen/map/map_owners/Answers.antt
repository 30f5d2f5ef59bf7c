use Rattle.std.proofs.Common.{take}
use Rattle.nit_screen.proofs.Lemmas.{ap, arith, next_band, ◌∙◌}
use Rattle.nit_screen.proofs.screen.map.map_owners.Goals as goal

pub map_band-requires-clause-patches : goal.map_band-requires-clause-patches
map_band-requires-clause-patches c =
    let wide = ap (λ size. size.0) c.size-width.ensures.size in
    rw wide (c.select-some.ensures.patches c.args.stack.now.width c.collect-count.ensures.patches)

pub bands-preserved : goal.bands-preserved
bands-preserved c =
    let wide = ap (λ size. size.0) c.size-width.ensures.size in
    let tall = ap (λ size. size.1) c.size-width.ensures.size in
    record {
      far = next_band c.args.stack.now c.bands.y c.min-end.result c.collect-count.result
          (take c.collect-count.result c.collect-count.new.patches) (take c.select-some.result c.select-some.new.kept)
          c.bands.map c.map_band.new.map c.bands.invariant.far (omega arith) (omega arith) c.collect-count.ensures.views
          c.collect-count.ensures.same c.select-some.ensures.same c.map_band.ensures.count
          (rw wide at c.map_band.ensures.above) (rw wide at c.map_band.ensures.rows);
      work = c.map_band.ensures.room ∙ c.bands.invariant.work;
    }
