use Rattle.nit_script.proofs.Lemmas.{arith, next_value}
use Rattle.nit_script.proofs.numbers.value_of.Goals as goal

pub overflow_mul-value : goal.overflow_mul-value
overflow_mul-value c =
    let next = next_value c.args.digits.now c.loop-digit.digit-index c.loop-digit.value c.requires.all c.requires.few
    c.loop-digit-test.true c.loop-digit.invariant in
    omega (arith, next.1)

pub overflow_sub-value : goal.overflow_sub-value
overflow_sub-value c = (next_value c.args.digits.now c.loop-digit.digit-index c.loop-digit.value c.requires.all
    c.requires.few c.loop-digit-test.true c.loop-digit.invariant).2
