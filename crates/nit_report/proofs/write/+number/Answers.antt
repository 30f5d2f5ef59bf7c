use Rattle.nit_report.proofs.Lemmas.{append_assoc, arith, decimal_digit, decimal_step, drop-drop}
use Rattle.nit_report.proofs.Lemmas.{one_digit, one_digit_more, rules}
use Rattle.nit_report.proofs.write.+number.Goals as goal

pub text-requires : goal.text-requires
text-requires t c = omega (arith, one_digit c.args.n)

pub returns-then-n-lt10-clause-end : goal.returns-then-n-lt10-clause-end
returns-then-n-lt10-clause-end t c = omega (arith, one_digit c.args.n c.if-n-lt10.true, c.text.ensures.end)

pub returns-then-n-lt10-clause-written : goal.returns-then-n-lt10-clause-written
returns-then-n-lt10-clause-written t c = rw (decimal_digit c.args.n c.if-n-lt10.true) c.text.ensures.written

pub number-end-requires : goal.number-end-requires
number-end-requires t c = (search rules, omega (arith, one_digit_more c.args.n c.if-n-lt10.false (omega arith)))

pub text-requires-2 : goal.text-requires-2
text-requires-2 t c = omega (arith, one_digit_more c.args.n c.if-n-lt10.false (omega arith), c.number-end.ensures.end)

pub returns-clause-end : goal.returns-clause-end
returns-clause-end t c =
    let more = one_digit_more c.args.n c.if-n-lt10.false (omega arith) in
    omega (arith, c.number-end.ensures.end, c.text-2.ensures.end)

pub returns-clause-written : goal.returns-clause-written
returns-clause-written t c =
    rw (
      c.text-2.ensures.written,
      c.number-end.ensures.written,
      decimal_step c.args.n c.if-n-lt10.false (omega arith),
      append_assoc,
    )

pub returns-clause-behind : goal.returns-clause-behind
returns-clause-behind t c =
    let at = c.number-end.result in
    rw (c.text-2.ensures.behind, c.text-2.ensures.end, ← drop-drop 1 at, ← drop-drop 1 at, c.number-end.ensures.behind)
