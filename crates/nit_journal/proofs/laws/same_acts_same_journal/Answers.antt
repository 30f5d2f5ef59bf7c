use Rattle.nit_journal.proofs.Lemmas.{first_state, same_journal}
use Rattle.nit_journal.proofs.laws.same_acts_same_journal.Goals as goal

pub returns : goal.returns
returns c config = same_journal (first_state config) 0
