use Rattle.nit_report.proofs.Lemmas.{few_are_read, is_bad, is_read, read_is}
use Rattle.nit_report.proofs.parse.parse_journal.Goals as goal

pub returns : goal.returns
returns c = record {
  read = read_is (λ v. v.items) _ _ c.entries_of.ensures;
  reads = λ entries h. is_read (λ v. v.items) _ _ entries c.entries_of.ensures h;
  few = few_are_read (λ v. v.items) _ _ c.entries_of.ensures;
  bad = λ line e. rw e at c.entries_of.ensures;
  is_bad = λ line h. is_bad (λ v. v.items) _ _ line c.entries_of.ensures h;
}
