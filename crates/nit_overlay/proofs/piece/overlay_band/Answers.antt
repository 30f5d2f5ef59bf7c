use Rattle.nit_overlay.proofs.Lemmas.{ap, area_as, arith, in_columns, more_columns, no_columns}
use Rattle.nit_overlay.proofs.Lemmas.{stripe_rule, sym, word_by}
use Rattle.nit_overlay.proofs.piece.overlay_band.Goals as goal

pub runs-init : goal.runs-init
runs-init c = no_columns c.requires.area.area.across

pub runs-preserved : goal.runs-preserved
runs-preserved c =
    let run = c.run_at-run.result in
    let block = record c.args.area.now { left = c.runs.x; right = run.end } in
    more_columns c.runs.invariant (omega arith) c.run_at-run.ensures.rule.within
    (area_as (λ x y w. word_by run.rule x y w) (λ x y w. word_by (stripe_rule c.args.stripe.now x) x y w) block
    c.args.width
    (λ x y w on. let at = in_columns block x y on in ap (λ r. word_by r x y w)
    (sym (c.run_at-run.ensures.rule.all x at.0 at.1))) c.overlay_block.ensures)
