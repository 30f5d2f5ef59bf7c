use Rattle.nit_report.proofs.Lemmas.{bad_is_one, read_and_bad}
use Rattle.nit_report.proofs.laws.journal_first_bad_is_one.Goals as goal

pub returns : goal.returns
returns c = record { one = bad_is_one; not_bad = read_and_bad }
