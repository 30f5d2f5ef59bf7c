use Rattle.nit_journal.proofs.Lemmas.{entry_keeps_all}
use Rattle.nit_journal.proofs.laws.deliveries_fit.Goals as goal

pub returns : goal.returns
returns c = entry_keeps_all
