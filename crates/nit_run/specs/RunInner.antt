-- The journal of an inner run, which a command puts behind the files of its run.
use Rattle.std.specs.Prelude.{◌≡◌, ℕ, List, [], ◌∷◌, codes, Option, Some, None}
use Rattle.nit_run.specs.Below.{Entry, File, journal_text}
use Rattle.nit_run.specs.Setup.{RunFiles, by_turns}
use Rattle.nit_run.specs.Outputs.{IsJournal}

abbrev pub inner_journal_name : List ℕ
inner_journal_name = codes "inner-journal.txt"

-- the text of the journal of a run by turns
abbrev pub IsInnerJournal : Option RunFiles → List File → Type 0
IsInnerJournal (Some i) files = (journal : List Entry) × IsJournal (by_turns i) journal
    × (files ≡ (inner_journal_name, journal_text journal) ∷ [])
IsInnerJournal None files = ⊥
