-- What the top call answers, and why.
use Rattle.std.specs.Prelude.{◌≡◌, ◌⊎◌, ℕ, ◌<◌, ◌≤◌, ◌==◌, Bool, true, false, IsTrue, List, [], ◌∷◌}
use Rattle.std.specs.Prelude.{◌++◌, Option, option_map, Result, Ok, Err, IfSome, IsSomeAnd}
use Rattle.std.specs.Prelude.{if◌then◌else◌}
use Rattle.nit_top.specs.Below.{Command, End, Entry, File, Gen, IsRefusedWith, IsValid, Judged}
use Rattle.nit_top.specs.Below.{NoCommand, PutError, Refused, Rose, Setup, StoreModel, command}
use Rattle.nit_top.specs.Below.{fault_code, list_any}
use Rattle.nit_top.specs.AddedFiles.{is_outside_of}
use Rattle.nit_top.specs.ProgramLines.{usage_line, read_fault_line, write_fault_line, outside_line}
use Rattle.nit_top.specs.ProgramLines.{fault_line, audited_line, generated_line, summary_line}
use Rattle.nit_top.specs.ProgramLines.{no_memory_line}
use Rattle.nit_top.specs.Course.{Course, WithRun, IsBothRead, IsNotBegun, IsOutside, IsLastRead}
use Rattle.nit_top.specs.Course.{IsMadeBefore, IsMadeInPart, IsPutWhole, IsRefusedAt, IsCutShort}
use Rattle.nit_top.specs.Course.{totals}
use Rattle.nit_top.specs.Stored.{AreStored, to_put}
use Rattle.nit_top.specs.Audited.{IsAudit, AuditOr, IsAudited}
use Rattle.nit_store.specs.declared.store.PutError.TheVariants as put
use Rattle.nit_setup.specs.declared.stop.End.TheVariants as ends

-- ---- how the work came to its end

-- what that end means, and the line on it
abbrev pub Came : {old : StoreModel} {c : Command} {journal : List Entry} → Course old c journal
    → Option (List File) → Option (List (List ℕ)) → End → List ℕ → Type 0
Came {c = c} course files asked ends.Usage line =
    (c ≡ NoCommand) × IsNotBegun course files asked × (line ≡ usage_line)
Came course files asked ends.ReadFault line =
    (name : List ℕ) × IsLastRead course files asked name × (line ≡ read_fault_line name)
Came {old = old} {c = c} course files asked (ends.Refused f) line =
    (name : List ℕ) × IsLastRead course files asked name
    × IfSome old.files (λ told. Judged c told (Refused name f)) × (line ≡ fault_line name f)
Came {old = old} {c = c} course files asked (ends.Unfit f) line =
    (name : List ℕ) × IsBothRead course files asked
    × IfSome old.files (λ told. Judged c told (Refused name f)) × (line ≡ fault_line name f)
Came course files asked ends.Outside line = IsOutside course files asked × (line ≡ outside_line)
Came course files asked ends.WriteFault line =
    (name : List ℕ)
    × (IsMadeBefore course files asked name
    ⊎ WithRun course (λ run. IsRefusedAt run files asked name))
    × (line ≡ write_fault_line name)
Came course files asked ends.NoMemory line =
    (IsNotBegun course files asked
    ⊎ (IsMadeInPart course files asked ⊎ WithRun course (λ run. IsCutShort run files asked)))
    × (line ≡ no_memory_line)
Came course files asked ends.Whole line =
    WithRun course (λ run. IsPutWhole run files asked × (line ≡ summary_line (totals run)))
Came course files asked (ends.Audited count) line =
    IsAudited course files asked count × (line ≡ audited_line count)

-- which counts of failures rose in the work
abbrev pub Counts : StoreModel → StoreModel → End → Type 0
Counts old new ends.ReadFault =
    Rose old.read_faults new.read_faults × (new.write_faults ≡ old.write_faults)
Counts old new ends.WriteFault =
    (new.read_faults ≡ old.read_faults) × Rose old.write_faults new.write_faults
    × (old.write_faults ≤ new.write_faults)
Counts old new other =
    (new.read_faults ≡ old.read_faults) × (new.write_faults ≡ old.write_faults)

-- ---- the line

-- the status by how the work came to its end, where the line is said
abbrev pub code_of : End → ℕ
code_of ends.Usage = 2
code_of ends.ReadFault = 3
code_of (ends.Refused f) = fault_code f
code_of (ends.Unfit f) = fault_code f
code_of ends.WriteFault = 4
code_of ends.NoMemory = 7
code_of ends.Outside = 10
code_of ends.Whole = 0
code_of (ends.Audited count) = 0

-- A refusal of the line makes 4 of 0; want of memory makes 7 of any status.
abbrev pub status_of : {T : Type 0} → ℕ → Result T PutError → ℕ
status_of code (Ok done) = code
status_of code (Err put.NoMemory) = 7
status_of code (Err put.Failed) = if code == 0 then 4 else code

-- what was said, and this behind it
abbrev pub said_also : Option (List ℕ) → List ℕ → Option (List ℕ)
said_also said text = option_map (λ before. before ++ text) said

-- The count of failed writes rose when the line was said; at a code of 4 it had risen before too.
pub record SayingFailed (old new : StoreModel) (code : ℕ) : Type 0 where
  pub between : ℕ
  pub before : old.write_faults ≤ between
  pub put : code ≡ 4 → Rose old.write_faults between
  pub said : Rose between new.write_faults

-- The line was said, and nothing else; or a front of it, where the saying was refused or memory ran
-- out in it.
pub record SaysLine (old new : StoreModel) (code status : ℕ) (line : List ℕ) : Type 0 where
  pub front : List ℕ
  pub back : List ℕ
  pub parts : line ≡ front ++ back
  pub said : new.said ≡ said_also old.said front
  pub whole : ((status ≡ code) × (back ≡ []))
      ⊎ ((status ≡ 7)
      ⊎ ((status ≡ (if code == 0 then 4 else code)) × SayingFailed old new code))

-- The work came to this end, and the line on it was said, or a front of it.
pub record IsSaid {old : StoreModel} {c : Command} {journal : List Entry}
    (course : Course old c journal)
    (new : StoreModel) (status : ℕ) : Type 0 where
  pub end : End
  pub line : List ℕ
  pub came : Came course new.files new.asked end line
  pub read : code_of end ≡ 3 → Rose old.read_faults new.read_faults
  pub put : code_of end ≡ 4 → Rose old.write_faults new.write_faults
  pub says : SaysLine old new (code_of end) status line

-- ---- the answer

-- no call of this kind failed: its count did not rise
abbrev pub NoFault : ℕ → ℕ → Type 0
NoFault before now = Rose before now → ⊥

-- the files are valid, and this is whether the region that the command films does not lie on their
-- screen
abbrev pub IsValidSo : Command → Bool → List File → Type 0
IsValidSo c outside files = (s : Setup) × IsValid c files s × (is_outside_of c s.config ≡ outside)

-- the files that the command reads are valid, and a region that it films lies on the screen; a
-- generated run reads none
abbrev pub HasValidFiles : Command → Option (List File) → Type 0
HasValidFiles (Gen number) told = Unit {0}
HasValidFiles c told = IsSomeAnd told (IsValidSo c false)

-- the status is one of those with which the work ends before a run
abbrev pub IsEarly : ℕ → Type 0
IsEarly status = IsTrue (list_any (λ s. s == status) (2 ∷ 3 ∷ 5 ∷ 6 ∷ 8 ∷ 9 ∷ 10 ∷ 11 ∷ []))

pub record Answer (old : StoreModel) (words : List (List ℕ)) (new : StoreModel) (status : ℕ)
    (journal : List Entry) : Type 0 where
  -- a run was begun, and this is it; or none was begun, and the journal is empty
  pub course : Course old (command words) journal
  -- there is no other status
  pub statuses : IsTrue (list_any (λ s. s == status)
      (0 ∷ 2 ∷ 3 ∷ 4 ∷ 5 ∷ 6 ∷ 7 ∷ 8 ∷ 9 ∷ 10 ∷ 11 ∷ []))
  -- 2 exactly where the words are no command; 7 is free
  pub usage : status ≡ 2 → command words ≡ NoCommand
  pub is_usage : command words ≡ NoCommand → (status ≡ 2) ⊎ (status ≡ 7)
  -- 3 only where a read failed in this call, and where one did 3 or 7
  pub read_fault : status ≡ 3 → Rose old.read_faults new.read_faults
  pub read_failed : old.read_faults < new.read_faults → (status ≡ 3) ⊎ (status ≡ 7)
  -- 4 only where a put or a saying failed in this call, and where one did not 0
  pub write_fault : status ≡ 4 → Rose old.write_faults new.write_faults
  pub write_failed : old.write_faults < new.write_faults → status ≡ 0 → ⊥
  -- 5 exactly where the configuration is refused
  pub bad_config : status ≡ 5 → IfSome old.files (λ files. IsRefusedWith 5 (command words) files)
  pub is_bad_config : NoFault old.read_faults new.read_faults
      → IsSomeAnd old.files (λ files. IsRefusedWith 5 (command words) files)
      → (status ≡ 5) ⊎ (status ≡ 7)
  -- 6 exactly where a script is the first file that is refused
  pub refused : status ≡ 6 → IfSome old.files (λ files. IsRefusedWith 6 (command words) files)
  pub is_refused : NoFault old.read_faults new.read_faults
      → IsSomeAnd old.files (λ files. IsRefusedWith 6 (command words) files)
      → (status ≡ 6) ⊎ (status ≡ 7)
  -- 8 exactly where the journal's text is the first that is refused; 9 exactly where all texts are
  -- valid and the journal is none of a run
  pub bad_journal : status ≡ 8 → IfSome old.files (λ files. IsRefusedWith 8 (command words) files)
  pub is_bad_journal : NoFault old.read_faults new.read_faults
      → IsSomeAnd old.files (λ files. IsRefusedWith 8 (command words) files)
      → (status ≡ 8) ⊎ (status ≡ 7)
  pub not_a_run : status ≡ 9 → IfSome old.files (λ files. IsRefusedWith 9 (command words) files)
  pub is_not_a_run : NoFault old.read_faults new.read_faults
      → IsSomeAnd old.files (λ files. IsRefusedWith 9 (command words) files)
      → (status ≡ 9) ⊎ (status ≡ 7)
  -- 10 exactly where the files are valid and the region that is to be filmed does not lie on the
  -- screen
  pub outside : status ≡ 10 → IfSome old.files (IsValidSo (command words) true)
  pub is_outside : NoFault old.read_faults new.read_faults
      → IsSomeAnd old.files (IsValidSo (command words) true) → (status ≡ 10) ⊎ (status ≡ 7)
  -- 11 exactly where all files are valid and the frames of the inner ones are too long for the
  -- script that is to show them
  pub frames_long : status ≡ 11 → IfSome old.files (λ files. IsRefusedWith 11 (command words) files)
  pub are_frames_long : NoFault old.read_faults new.read_faults
      → IsSomeAnd old.files (λ files. IsRefusedWith 11 (command words) files)
      → (status ≡ 11) ⊎ (status ≡ 7)
  -- where the work ends before a run, nothing is put and the journal is empty
  pub nothing_put : IsEarly status → (new.files ≡ old.files) × (journal ≡ [])
  -- there the names that are asked for are those of valid files that were read, and at most the
  -- next one
  pub asked : IsEarly status → IsNotBegun course new.files new.asked
  -- an audit puts nothing, and the journal is empty, whatever the status
  pub audit_puts_nothing : IsAudit (command words) → (new.files ≡ old.files) × (journal ≡ [])
  -- at 0 a run was begun, and all is put that it puts, and nothing else; or an audit said yes
  pub put_whole : status ≡ 0 → AuditOr (command words)
      ((count : ℕ) × IsAudited course new.files new.asked count)
      (WithRun course (λ run. IsPutWhole run new.files new.asked))
  -- at 0 the summary line of this run is said, and all of it; or the line on the audited journal
  pub summary : status ≡ 0 → AuditOr (command words)
      ((count : ℕ) × IsAudited course new.files new.asked count
      × (new.said ≡ said_also old.said (audited_line count)))
      (WithRun course (λ run. new.said ≡ said_also old.said (summary_line (totals run))))
  -- and it is the same line for every generated run
  pub one_line : (number : ℕ) → command words ≡ Gen number → status ≡ 0
      → new.said ≡ said_also old.said generated_line
  -- at 4 a run was begun: all is put, and the line was refused; or the files before one are put,
  -- and that one was refused; or none was begun, and that one is among the files that the command
  -- makes; or an audit said yes, and the line was refused
  pub put_in_part : status ≡ 4 → AuditOr (command words)
      ((count : ℕ) × IsAudited course new.files new.asked count)
      (((name : List ℕ) × IsMadeBefore course new.files new.asked name)
      ⊎ WithRun course (λ run. IsPutWhole run new.files new.asked
      ⊎ ((name : List ℕ) × IsRefusedAt run new.files new.asked name)))
  -- at 7 it is as at 0 or 4, or memory ran out at a file that the run was to put; or no run was
  -- begun, and nothing is put but the first files that the command makes
  pub at_seven : status ≡ 7
      → IsNotBegun course new.files new.asked
      ⊎ (IsMadeInPart course new.files new.asked
      ⊎ WithRun course (λ run. IsPutWhole run new.files new.asked
      ⊎ IsCutShort run new.files new.asked))
  -- where the store tells its files, each that was put stands there at the end under its name, with
  -- its bytes: at 0 all that are to be put, and else the first of them, or none
  pub stored : AreStored (to_put course) status old.files new.files
  -- the line on how the work came to its end is what is said, and the status goes by both
  pub said : IsSaid course new status
  -- valid files, with a region on the screen, are run to the end, and a journal of a run is found
  -- to be one, unless the store fails or memory runs out
  pub complete : HasValidFiles (command words) old.files
      → NoFault old.read_faults new.read_faults → NoFault old.write_faults new.write_faults
      → (status ≡ 0) ⊎ (status ≡ 7)
