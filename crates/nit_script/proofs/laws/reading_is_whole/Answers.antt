use Rattle.nit_script.proofs.Lemmas.{read_and_bad, read_and_long}
use Rattle.nit_script.proofs.laws.reading_is_whole.Goals as goal

pub returns-clause-not_bad : goal.returns-clause-not_bad
returns-clause-not_bad g c = λ bytes lines line p q. read_and_bad c.one_in_front.ensures bytes lines line p q

pub returns-clause-not_long : goal.returns-clause-not_long
returns-clause-not_long g c = λ bytes lines p few q. read_and_long c.one_in_front.ensures bytes lines p few q
