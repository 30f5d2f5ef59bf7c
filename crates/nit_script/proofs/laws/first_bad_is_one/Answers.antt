use Rattle.nit_script.proofs.Lemmas.{bad_and_long, same_bad}
use Rattle.nit_script.proofs.laws.first_bad_is_one.Goals as goal

pub returns-clause-one : goal.returns-clause-one
returns-clause-one g c = λ bytes a b p q. same_bad c.one_in_front.ensures bytes a b p q

pub returns-clause-not_long : goal.returns-clause-not_long
returns-clause-not_long g c = λ bytes line p q. bad_and_long c.one_in_front.ensures bytes line p q
