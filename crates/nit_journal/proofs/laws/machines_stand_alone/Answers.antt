use Rattle.nit_journal.proofs.Lemmas.{whole}
use Rattle.nit_journal.proofs.laws.machines_stand_alone.Goals as goal

pub returns : goal.returns
returns c config journal x legal lt = (whole config journal x legal lt).1.1
