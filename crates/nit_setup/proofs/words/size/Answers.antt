use Rattle.std.proofs.Common.{◌≡◌, arith, sym, ◌∙◌}
use Rattle.nit_setup.proofs.Lemmas.{decimal_injective, number_found, number_none}
use Rattle.nit_setup.proofs.words.size.Goals as goal
use Rattle.nit_setup.proofs.words.size.Goals.{else-n-ge1-via-then-n-ge1+else-n-most}
use Rattle.nit_setup.proofs.words.size.Goals.{else-n-ge1-via-else-n-ge1}

pub returns-in_err-n-clause-size : goal.returns-in_err-n-clause-size
returns-in_err-n-clause-size c =
    let is = c.as_bytes.ensures.value in
    c.from_residual.ensures ∙ number_none c.args.word.now 1 c.args.most
    (λ n low high e. c.in_err-n.ensures.none n (omega arith) (is ∙ e))

pub returns-then-n-most-clause-size : goal.returns-then-n-most-clause-size
returns-then-n-most-clause-size c =
    number_found c.args.word.now 1 c.args.most c.in_ok-n.n (omega arith) (sym c.as_bytes.ensures.value
    ∙ c.in_ok-n.ensures.found.1) c.if-n-ge1.true (omega arith)

pub returns-else-n-ge1-clause-size : goal.returns-else-n-ge1-clause-size
returns-else-n-ge1-clause-size c =
    let found = c.in_ok-n.ensures.found in
    number_none c.args.word.now 1 c.args.most (λ n low high e.
    let same : c.in_ok-n.n ≡ n = decimal_injective c.in_ok-n.n n (omega (arith, found.0)) (omega arith) (sym found.1
    ∙ c.as_bytes.ensures.value ∙ e) in
    elim c.else-n-ge1.branch [
      | else-n-ge1-via-then-n-ge1+else-n-most w ↦ absurd (omega arith)
      | else-n-ge1-via-else-n-ge1 w ↦ absurd (omega arith)
    ])
