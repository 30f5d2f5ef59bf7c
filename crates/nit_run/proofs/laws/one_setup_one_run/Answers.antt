use Rattle.nit_run.proofs.Lemmas.{same_files, same_journal}
use Rattle.nit_run.proofs.laws.one_setup_one_run.Goals as goal

pub returns-clause-journal : goal.returns-clause-journal
returns-clause-journal c = same_journal c.same_acts_same_journal.ensures

pub returns-clause-files : goal.returns-clause-files
returns-clause-files c = same_files c.same_acts_same_journal.ensures
