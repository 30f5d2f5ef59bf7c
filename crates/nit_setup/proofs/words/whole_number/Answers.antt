use Rattle.nit_setup.proofs.Lemmas.{number_is}
use Rattle.nit_setup.proofs.words.whole_number.Goals as goal

pub returns-clause-number : goal.returns-clause-number
returns-clause-number c =
    rw (← c.as_bytes.ensures.value)
    (number_is c.natural.result c.as_bytes.result.now c.natural.ensures.found c.natural.ensures.none)
