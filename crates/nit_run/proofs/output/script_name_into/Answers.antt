use Rattle.nit_run.proofs.Lemmas.{arith, few_digits, nat_tests}
use Rattle.nit_run.proofs.output.script_name_into.Goals as goal

pub number-at-requires : goal.number-at-requires
number-at-requires c = grind (arith, nat_tests, few_digits)

pub text-requires : goal.text-requires
text-requires c = grind (arith, nat_tests, few_digits)
