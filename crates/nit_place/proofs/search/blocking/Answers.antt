use Rattle.nit_place.proofs.Lemmas.{block_step, clear_step, sym, ◌∙◌}
use Rattle.nit_place.proofs.search.blocking.Goals as goal

pub views-preserved-then-not-meets : goal.views-preserved-then-not-meets
views-preserved-then-not-meets c =
    clear_step _ _ c.args.x c.args.y c.args.w c.args.h c.views.found c.at-part.result c.at-part.ensures.part
    (sym c.meets.ensures ∙ c.if-not-meets.true) c.views.invariant

pub views-preserved : goal.views-preserved
views-preserved c =
    block_step _ _ c.args.x c.args.y c.args.w c.args.h c.views.found c.at-part.result c.further.result
    c.at-part.ensures.part (sym c.meets.ensures ∙ c.if-not-meets.false) c.at-part.ensures.right
    c.at-part.ensures.bottom c.further.ensures c.views.invariant
