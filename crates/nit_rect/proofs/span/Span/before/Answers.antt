use Rattle.nit_rect.proofs.Lemmas.{arith, ints, spans_before}
use Rattle.nit_rect.proofs.span.Span.before.Goals as goal
use Rattle.nit_rect.proofs.span.Span.before.Goals.{then-room-le0, else-room-le0+then-room-self}
use Rattle.nit_rect.proofs.span.Span.before.Goals.{else-room-le0+else-room-self}

pub returns : goal.returns
returns c =
    λ at.
    let span = c.args.self in
    elim c.if-room-le0.branch [
      | then-room-le0 w ↦ rw w.result-is
          (spans_before _ span.from c.args.end at span.long 0 (omega (arith, ints)) (omega arith)
          (λ some. absurd (omega arith)) (λ less. omega (arith, ints)))
      | else-room-le0+then-room-self w ↦ rw w.result-is
          (spans_before _ span.from c.args.end at span.long _ (omega (arith, ints)) (omega (arith, ints))
          (λ some. omega (arith, ints)) (λ less. omega (arith, ints)))
      | else-room-le0+else-room-self w ↦ rw w.result-is
          (spans_before _ span.from c.args.end at span.long span.long (omega (arith, ints)) (omega arith)
          (λ some. omega (arith, ints)) (λ less. absurd (omega arith)))
    ]
