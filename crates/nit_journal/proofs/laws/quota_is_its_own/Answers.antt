use Rattle.nit_journal.proofs.Lemmas.{answered_alike, as_its_calls_have_it}
use Rattle.nit_journal.proofs.laws.quota_is_its_own.Goals as goal

pub returns : goal.returns
returns c = assumption (as_its_calls_have_it, answered_alike)
