-- What the bytes of a journal's file make of an audit.
use Rattle.std.specs.Prelude.{ℕ, ◌^◌, ◌<◌, ◌≤◌, List, length}
use Rattle.nit_setup.specs.Below.{Entry, Fault, IsFirstBadEntry, IsGood, IsVerdict, ReadsJournal}
use Rattle.nit_setup.specs.Below.{Setup, Verdict}
use Rattle.nit_audit.specs.declared.auditing.Verdict.TheVariants as verdict
use Rattle.nit_setup.specs.declared.stop.Fault.TheVariants as fault

-- the bytes of a journal's file
abbrev pub most_journal_bytes : ℕ
most_journal_bytes = 2 ^ 27

-- at most so many bytes, which spell these entries
abbrev pub IsJournalText : List ℕ → List Entry → Type 0
IsJournalText bytes entries = (length bytes ≤ most_journal_bytes) × ReadsJournal bytes entries

-- more bytes than that, or a first line that spells no entry
abbrev pub IsNoJournalText : List ℕ → Fault → Type 0
IsNoJournalText bytes fault.LongJournal = most_journal_bytes < length bytes
IsNoJournalText bytes (fault.BadEntry line) =
    (length bytes ≤ most_journal_bytes) × IsFirstBadEntry bytes line
IsNoJournalText bytes other = ⊥

-- this is the verdict on entries, by the scripts of the setup
abbrev pub IsVerdictOn : Setup → List Entry → Verdict → Type 0
IsVerdictOn s entries v = IsVerdict (IsGood s.config s.scripts s.input) entries v

-- the bytes spell a journal, and this is the verdict on it
abbrev pub HasVerdict : Setup → List ℕ → Verdict → Type 0
HasVerdict s bytes v =
    (entries : List Entry) × IsJournalText bytes entries × IsVerdictOn s entries v

-- the bytes spell no journal; or they spell one, and the verdict on it is not yes
abbrev pub IsJournalFault : Setup → List ℕ → Fault → Type 0
IsJournalFault s bytes (fault.NotARun entry) = HasVerdict s bytes (verdict.No entry)
IsJournalFault s bytes other = IsNoJournalText bytes other
