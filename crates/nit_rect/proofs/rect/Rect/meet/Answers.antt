use Rattle.nit_rect.proofs.Lemmas.{arith, not_apart}
use Rattle.nit_rect.proofs.rect.Rect.meet.Goals as goal

pub returns-clause-both : goal.returns-clause-both
returns-clause-both c = rw c.of_spans.ensures c.common.ensures

pub returns-clause-none : goal.returns-clause-none
returns-clause-none c apart =
    absurd (not_apart _ _ c.of_spans.result (returns-clause-both c) (rw c.of_spans.ensures (omega arith, omega arith))
    apart)
