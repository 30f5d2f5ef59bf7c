-- A journal that was audited, and found to be one of a run.
use Rattle.std.specs.Prelude.{◌≡◌, ℕ, ◌<◌, List, length, map, Option, IfSome}
use Rattle.nit_top.specs.Below.{AreSetup, Audit, Command, End, Entry, File, IsJournalText, IsLegal}
use Rattle.nit_top.specs.Below.{IsRunnable, IsVerdictOn, IsWhole, Setup, StoreModel, alone}
use Rattle.nit_top.specs.Below.{asked_also, bytes_of, calls_to_make, donation_of, projection, reads}
use Rattle.nit_top.specs.Below.{replies_to, user_actions_to_do}
use Rattle.nit_top.specs.Course.{Course, WithoutRun}
use Rattle.nit_audit.specs.declared.auditing.Verdict.TheVariants as verdict
use Rattle.nit_setup.specs.declared.stop.End.TheVariants as end
use Rattle.nit_setup.specs.declared.stop.Fault.TheVariants as fault

-- the command is an audit
abbrev pub IsAudit : Command → Type 0
IsAudit (Audit configuration journal) = Unit {0}
IsAudit other = ⊥

-- the first of two facts where the command is an audit, and the second for all other commands
abbrev pub AuditOr : Command → Type 0 → Type 0 → Type 0
AuditOr (Audit configuration journal) OfAudit OfRun = OfAudit
AuditOr other OfAudit OfRun = OfRun

-- The entries are those of a run of this setup: yes is the verdict on them, so they are legal, and
-- whole for its scripts. The replies to each client are those of a machine that serves it alone.
pub record IsOfARun (s : Setup) (entries : List Entry) : Type 0 where
  pub yes : IsVerdictOn s entries verdict.Yes
  pub legal : IsLegal s.config entries
  pub whole : IsWhole (map calls_to_make s.scripts) (user_actions_to_do s.input) entries
  pub alone : (n : ℕ) → n < length s.config.clients
      → replies_to n entries ≡ alone (donation_of s.config n) (projection n entries)

-- the files that the audit names are this setup's, and spell these entries
abbrev pub AreAudited : Command → List File → Setup → List Entry → Type 0
AreAudited (Audit configuration journal) files s entries =
    AreSetup configuration files s × IsJournalText (bytes_of journal files) entries
AreAudited other files s entries = ⊥

-- No run was begun, and no file was put. The command is an audit, and all of its files were read.
-- The journal has so many entries, and they are those of a run of what the other files are.
pub record IsAudited {old : StoreModel} {c : Command} {journal : List Entry}
    (course : Course old c journal) (files : Option (List File)) (asked : Option (List (List ℕ)))
    (count : ℕ) : Type 0 where
  pub none : WithoutRun course
  pub same : files ≡ old.files
  pub audit : IsAudit c
  pub setup : Setup
  pub runnable : IsRunnable setup
  pub entries : List Entry
  pub counted : length entries ≡ count
  pub of_a_run : IsOfARun setup entries
  pub told : IfSome old.files (λ all. AreAudited c all setup entries)
  pub asks : asked ≡ asked_also old.asked (reads c setup)

-- how an audit of entries ends, unless memory runs out
abbrev pub IsAuditEnd : Setup → List Entry → End → Type 0
IsAuditEnd s entries (end.Audited count) = (length entries ≡ count) × IsOfARun s entries
IsAuditEnd s entries (end.Refused (fault.NotARun entry)) = IsVerdictOn s entries (verdict.No entry)
IsAuditEnd s entries end.NoMemory = Unit {0}
IsAuditEnd s entries other = ⊥
