use Rattle.nit_report.proofs.Lemmas.{append_assoc, arith, decimal_digit, decimal_step}
use Rattle.nit_report.proofs.spelling.+put_decimal.Goals as goal

pub returns-then-number-lt10 : goal.returns-then-number-lt10
returns-then-number-lt10 t c = rw (decimal_digit c.args.number c.if-number-lt10.true) c.in_ok-push.ensures.items

pub returns : goal.returns
returns t c =
    rw (
      c.in_ok-push-2.ensures.items,
      c.in_ok-put_decimal.ensures,
      decimal_step c.args.number c.if-number-lt10.false (omega arith),
      append_assoc,
    )
