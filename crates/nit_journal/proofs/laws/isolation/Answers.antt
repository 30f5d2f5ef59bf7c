use Rattle.nit_journal.proofs.Lemmas.{served_alone}
use Rattle.nit_journal.proofs.laws.isolation.Goals as goal

pub returns : goal.returns
returns c = served_alone
