use Rattle.std.proofs.Common.{drop, ◌++◌, ◌≡◌}
use Rattle.nit_report.proofs.Lemmas.{entry_spelling, flat_map, spelled}
use Rattle.nit_report.proofs.journal.journal_text.Given as goal

abbrev pub invariant-loop-entry : goal.invariant-loop-entry
invariant-loop-entry l = l.out.items ++ flat_map (spelled entry_spelling) (drop l.entry-index l.entries)
    ≡ flat_map (spelled entry_spelling) l.entries
