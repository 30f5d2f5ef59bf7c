use Rattle.nit_report.proofs.Lemmas.{journal_reading, same_read, sym, ◌∙◌}
use Rattle.nit_report.proofs.laws.journal_reading_is_one.Goals as goal

pub returns : goal.returns
returns c = record { entries = same_read journal_reading; bytes = λ entries a b p q. p.1 ∙ sym q.1 }
