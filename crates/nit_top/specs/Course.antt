-- How far a command came: the files that it read, the run, and the files that were put.
use Rattle.std.specs.Prelude.{◌≡◌, ◌⊎◌, ℕ, ◌+◌, true, false, List, [], ◌∷◌, ◌++◌, length, Option}
use Rattle.std.specs.Prelude.{Some}
use Rattle.nit_top.specs.Below.{AreAllFiles, AreOutputs, BothFiles, Command, Entry, File, FilesRead}
use Rattle.nit_top.specs.Below.{Gen, HasRead, Headline, PutFiles, RunFiles, Setup, StoreModel}
use Rattle.nit_top.specs.Below.{asked_also, file_names, generated_files, names_read, next_name}
use Rattle.nit_top.specs.Below.{reads, shots}
use Rattle.nit_top.specs.AddedFiles.{is_outside_of, AreAdded}
use Rattle.nit_top.specs.ProgramLines.{Totals}

-- ---- the run

-- The run of a command was begun: this is what was run, and these are its own files. All that it is
-- to put are these, and behind them what the command adds. A region that it films lies on the
-- screen.
pub record IsCommandRun (old : StoreModel) (c : Command) (journal : List Entry) : Type 0 where
  pub setup : Setup
  pub files_are : AreAllFiles c old.files setup
  pub inside : is_outside_of c setup.config ≡ false
  pub outputs : List File
  pub are : AreOutputs setup journal outputs
  pub headline : Headline setup journal outputs
  pub added : List File
  pub added_are : AreAdded c are added
  pub puts : List File
  pub puts_are : puts ≡ outputs ++ added

-- A run was begun, and this is it; or none was begun, and the journal is empty.
pub data Course (old : StoreModel) (c : Command) (journal : List Entry) : Type 0 where
  Begun : IsCommandRun old c journal → Course old c journal
  NotBegun : journal ≡ [] → Course old c journal

-- a run was begun, and this holds of it
abbrev pub WithRun : {old : StoreModel} {c : Command} {journal : List Entry}
    → Course old c journal → (IsCommandRun old c journal → Type 0) → Type 0
WithRun (Begun run) Holds = Holds run
WithRun (NotBegun empty) Holds = ⊥

-- no run was begun
abbrev pub WithoutRun : {old : StoreModel} {c : Command} {journal : List Entry}
    → Course old c journal → Type 0
WithoutRun (Begun run) = ⊥
WithoutRun (NotBegun empty) = Unit {0}

-- how many clients, journal entries and pictures a run had
abbrev pub totals : {old : StoreModel} {c : Command} {journal : List Entry}
    → IsCommandRun old c journal → Totals
totals {journal = journal} run = record {
  clients = length run.setup.config.clients;
  entries = length journal;
  frames = shots journal + 1;
}

-- ---- before a run

-- No run was begun, and no file was put. The files that were read are valid, and they and at most
-- the next one were asked for.
pub record IsNotBegun {old : StoreModel} {c : Command} {journal : List Entry}
    (course : Course old c journal)
    (files : Option (List File)) (asked : Option (List (List ℕ))) : Type 0 where
  pub none : WithoutRun course
  pub same : files ≡ old.files
  pub read : FilesRead
  pub valid : HasRead c old.files read
  pub asks : (asked ≡ asked_also old.asked (names_read c read))
      ⊎ ((name : List ℕ) × (next_name c read ≡ Some name)
      × (asked ≡ asked_also old.asked (names_read c read ++ name ∷ [])))

-- No run was begun, and no file was put. The file of this name was asked for last, behind those
-- that were read, which are valid.
pub record IsLastRead {old : StoreModel} {c : Command} {journal : List Entry}
    (course : Course old c journal)
    (files : Option (List File)) (asked : Option (List (List ℕ))) (name : List ℕ) : Type 0 where
  pub none : WithoutRun course
  pub same : files ≡ old.files
  pub read : FilesRead
  pub valid : HasRead c old.files read
  pub next : next_name c read ≡ Some name
  pub asks : asked ≡ asked_also old.asked (names_read c read ++ name ∷ [])

-- No run was begun, and no file was put. All files were read and are valid, and the region that the
-- command films does not lie on the screen of their configuration.
pub record IsOutside {old : StoreModel} {c : Command} {journal : List Entry}
    (course : Course old c journal)
    (files : Option (List File)) (asked : Option (List (List ℕ))) : Type 0 where
  pub none : WithoutRun course
  pub same : files ≡ old.files
  pub setup : Setup
  pub valid : AreAllFiles c old.files setup
  pub outside : is_outside_of c setup.config ≡ true
  pub asks : asked ≡ asked_also old.asked (reads c setup)

-- No run was begun, and no file was put. All files of two configurations were read, and each is
-- valid.
pub record IsBothRead {old : StoreModel} {c : Command} {journal : List Entry}
    (course : Course old c journal)
    (files : Option (List File)) (asked : Option (List (List ℕ))) : Type 0 where
  pub none : WithoutRun course
  pub same : files ≡ old.files
  pub o : RunFiles
  pub i : RunFiles
  pub valid : HasRead c old.files (BothFiles o i)
  pub asks : asked ≡ asked_also old.asked (names_read c (BothFiles o i))

-- ---- the files that are made before a run

-- the files that a command makes, and puts before its run
abbrev pub made_by : Command → List File
made_by (Gen number) = generated_files number
made_by other = []

-- No run was begun. Of the files that the command makes, all before these last ones were put, and
-- nothing else. These names were asked for behind theirs.
pub record IsMadeUpTo {old : StoreModel} {c : Command} {journal : List Entry}
    (course : Course old c journal)
    (files : Option (List File)) (asked : Option (List (List ℕ)))
    (last : List File) (more : List (List ℕ)) : Type 0 where
  pub none : WithoutRun course
  pub front : List File
  pub parts : made_by c ≡ front ++ last
  pub put : PutFiles front old.files files
  pub asks : asked ≡ asked_also old.asked (file_names front ++ more)

-- no run was begun: of the files that the command makes, those before this one were put, and it was
-- asked for
abbrev pub IsMadeBefore : {old : StoreModel} {c : Command} {journal : List Entry}
    → Course old c journal
    → Option (List File) → Option (List (List ℕ)) → List ℕ → Type 0
IsMadeBefore course files asked name =
    (bytes : List ℕ) × (behind : List File)
    × IsMadeUpTo course files asked ((name, bytes) ∷ behind) (name ∷ [])

-- no run was begun: memory ran out when some of the files that the command makes were put, or all;
-- the next one was asked for, or was not
abbrev pub IsMadeInPart : {old : StoreModel} {c : Command} {journal : List Entry}
    → Course old c journal
    → Option (List File) → Option (List (List ℕ)) → Type 0
IsMadeInPart course files asked =
    ((name : List ℕ) × IsMadeBefore course files asked name)
    ⊎ ((last : List File) × IsMadeUpTo course files asked last [])

-- ---- what a run put

-- the names that a run asked for: those that the command reads, and then these
abbrev pub asked_in : {old : StoreModel} {c : Command} {journal : List Entry}
    → IsCommandRun old c journal → List (List ℕ) → Option (List (List ℕ))
asked_in {old = old} {c = c} run names = asked_also old.asked (reads c run.setup ++ names)

-- All that the run puts was put, and nothing else.
pub record IsPutWhole {old : StoreModel} {c : Command} {journal : List Entry}
    (run : IsCommandRun old c journal)
    (files : Option (List File)) (asked : Option (List (List ℕ))) : Type 0 where
  pub put : PutFiles run.puts old.files files
  pub asks : asked ≡ asked_in run (file_names run.puts)

-- The files before one of those that the run puts were put, and nothing else. These names were
-- asked for behind theirs.
pub record IsPutBefore {old : StoreModel} {c : Command} {journal : List Entry}
    (run : IsCommandRun old c journal)
    (files : Option (List File)) (asked : Option (List (List ℕ)))
    (name : List ℕ) (more : List (List ℕ)) : Type 0 where
  pub front : List File
  pub bytes : List ℕ
  pub back : List File
  pub parts : run.puts ≡ front ++ (name, bytes) ∷ back
  pub put : PutFiles front old.files files
  pub asks : asked ≡ asked_in run (file_names front ++ more)

-- the files before this one were put, and it was refused
abbrev pub IsRefusedAt : {old : StoreModel} {c : Command} {journal : List Entry}
    → IsCommandRun old c journal
    → Option (List File) → Option (List (List ℕ)) → List ℕ → Type 0
IsRefusedAt run files asked name = IsPutBefore run files asked name (name ∷ [])

-- the files before one were put, and then memory ran out: that one was asked for, or was not
abbrev pub IsCutShort : {old : StoreModel} {c : Command} {journal : List Entry}
    → IsCommandRun old c journal
    → Option (List File) → Option (List (List ℕ)) → Type 0
IsCutShort run files asked =
    (name : List ℕ)
    × (IsPutBefore run files asked name (name ∷ []) ⊎ IsPutBefore run files asked name [])
