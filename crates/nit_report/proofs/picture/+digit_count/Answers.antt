use Rattle.std.proofs.Common.{arith, length, ◌+◌, ◌≡◌}
use Rattle.nit_report.proofs.Lemmas.{decimal, few_digits, one_digit, one_digit_more}
use Rattle.nit_report.proofs.picture.+digit_count.Goals as goal

pub returns-then-n-lt10 : goal.returns-then-n-lt10
returns-then-n-lt10 t c = record { count = omega (arith, one_digit c.args.n c.if-n-lt10.true); few = omega arith }

pub returns-else-n-lt10 : goal.returns-else-n-lt10
returns-else-n-lt10 t c =
    let count : c.digit_count.result + 1 ≡ length (decimal c.args.n) =
    omega (arith, one_digit_more c.args.n c.if-n-lt10.false (omega arith), c.digit_count.ensures.count) in
    record { count = count; few = omega (arith, few_digits c.args.n (omega arith)) }
