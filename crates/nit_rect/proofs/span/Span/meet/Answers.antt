use Rattle.nit_rect.proofs.Lemmas.{arith, ints, spans_earlier, ◌∙◌}
use Rattle.nit_rect.proofs.span.Span.meet.Goals as goal

pub returns-else-self-other : goal.returns-else-self-other
returns-else-self-other c =
    λ at. c.before-else-self-other.ensures at
    ∙ spans_earlier c.args.self.from c.args.other.from _ at _ _ (omega (arith, ints)) (omega (arith, ints))
