use Rattle.std.proofs.Common.{eq-eqb, eqb-true, sym}
use Rattle.nit_rect.proofs.Lemmas.{arith, covers_none, inr, not_apart, ◌∙◌}
use mathlib.Core.Logic.{dite}
use native.Mathlib.Decide.{ℕ_discrete}
use Rattle.nit_rect.proofs.rect.Rect.is_apart.Goals as goal

pub returns-else-columns-eq0 : goal.returns-else-columns-eq0
returns-else-columns-eq0 c =
    let high = c.common.result.1.long in (
      λ none p. sym (c.common.ensures p) ∙ covers_none _ p (inr (eqb-true high 0 none)),
      λ apart. dite (ℕ_discrete high 0) (eq-eqb high 0)
          (λ some. absurd (not_apart _ _ _ c.common.ensures (omega arith, omega arith) apart)),
    )
