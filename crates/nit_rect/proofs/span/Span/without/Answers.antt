use Rattle.nit_rect.proofs.Lemmas.{arith, ints, times_round}
use Rattle.nit_rect.proofs.span.Span.without.Goals as goal

pub returns : goal.returns
returns c =
    λ at.
    times_round c.args.self.from _ c.args.cut.from _ at c.args.self.long _ c.args.cut.long _ (omega (arith, ints))
    (omega (arith, ints)) (omega (arith, ints)) (omega (arith, ints))
