use Rattle.nit_damage.proofs.Lemmas.{skip_both, skip_next}
use Rattle.nit_damage.proofs.cutting.skip_apart.Goals as goal

pub views-preserved : goal.views-preserved
views-preserved c = record {
  skip = skip_both c.views.invariant.skip
      (skip_next c.args.stack.now c.views.job c.at.result c.rect.result c.at.ensures.place
      (c.rect.ensures.place c.views.job.at c.at.ensures.place) (c.is_apart.ensures.0 c.if-not-is_apart.false));
}
