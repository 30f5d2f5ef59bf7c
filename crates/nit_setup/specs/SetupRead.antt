-- Reading all files of a command: what was read, or the file that it stopped at.
use Rattle.std.specs.Prelude.{◌≡◌, ◌⊎◌, ℕ, ◌≤◌, Bool, true, false, List, length, Some, Result, Ok}
use Rattle.std.specs.Prelude.{Err, IfSome}
use Rattle.nit_setup.specs.Below.{Configuration, IsRunConfiguration, IsRunnable, Loaded, OneScript}
use Rattle.nit_setup.specs.Below.{RunFiles, Setup, Stop, StopName, StoreModel, TwoRuns, WithClips}
use Rattle.nit_setup.specs.Below.{WithJournal, asking_all, bytes_of, idle_user, run_files, setup_of}
use Rattle.nit_setup.specs.Below.{still_configuration, still_setup, with_asked}
use Rattle.nit_setup.specs.Command.{Audit, Clip, Command, Nested, Still}
use Rattle.nit_setup.specs.FilesRead.{AllFiles, AreAllScripts, BothFiles, FilesRead, HasRead}
use Rattle.nit_setup.specs.FilesRead.{IsOuter, names_read, next_name}
use Rattle.nit_setup.specs.JournalFiles.{IsJournalText, most_journal_bytes}
use Rattle.nit_setup.specs.Judgement.{IsConfig, IsConfigFault, Judged, Refused, reads}
use Rattle.nit_setup.specs.OuterRead.{HasReadOuter, ReadOuter}
use Rattle.nit_setup.specs.Reading.{HasReadScripts, ReadScripts, StoppedAt, StoppedBy}
use Rattle.nit_setup.specs.StopNames.{name_text}
use Rattle.nit_setup.specs.declared.stop.StopName.TheVariants as file_name

-- the setup of a configuration and its scripts, with texts, and with its clients beside each other
-- or by turns
abbrev pub setup_in : Loaded → Bool → Setup
setup_in l beside = setup_of l.config l.scripts.clients.items l.scripts.input true beside

-- the files of a configuration and its scripts
abbrev pub files_in : Loaded → RunFiles
files_in l = run_files l.config l.scripts.clients.items l.scripts.input

-- the setup with a clip script for each client
abbrev pub setup_with_clips : WithClips → Setup
setup_with_clips w = record (setup_in w.run true) { clips = w.clips.items }

-- ---- any command

-- A command has read these files, each of which is valid, and has asked for no others.
pub record ReadsTo (c : Command) (old : StoreModel) (read : FilesRead)
    (now : StoreModel) : Type 0 where
  pub asked : now ≡ asking_all old (names_read c read)
  pub valid : HasRead c old.files read

-- A command has read these files, and stopped at the next one: that was not read, or it is the
-- first that is refused, or memory ran out there.
pub record StoppedReading (c : Command) (old new : StoreModel) (stop : Stop) : Type 0 where
  pub read : FilesRead
  pub between : StoreModel
  pub before : ReadsTo c old read between
  pub name : List ℕ
  pub next : next_name c read ≡ Some name
  pub named : name_text c stop.name ≡ name
  pub stopped : StoppedBy (λ files f. Judged c files (Refused name f)) between name new stop.end

-- all files of a command were read, and make this setup; or it stopped at one
abbrev pub SetupRead : Command → Bool → StoreModel → StoreModel → Result Loaded Stop → Type 0
SetupRead c beside old new (Ok l) = ReadsTo c old (AllFiles (setup_in l beside)) new
SetupRead c beside old new (Err stop) = StoppedReading c old new stop

-- ---- one command

-- the script of a picture was read, and what this takes was made
pub record HasReadPicture (width height : ℕ) (script : List ℕ) (old : StoreModel) (p : OneScript)
    (new : StoreModel) : Type 0 where
  pub config : p.config ≡ still_configuration width height
  pub input : p.input ≡ idle_user p.client
  pub read : ReadsTo (Still width height script) old
      (AllFiles (still_setup width height p.client)) new

abbrev pub PictureRead : ℕ → ℕ → List ℕ → StoreModel → StoreModel → Result OneScript Stop → Type 0
PictureRead width height script old new (Ok p) = HasReadPicture width height script old p new
PictureRead width height script old new (Err stop) =
    StoppedReading (Still width height script) old new stop

-- a configuration, its scripts and its clip scripts
abbrev pub ClipSetupRead : List ℕ → StoreModel → StoreModel → Result WithClips Stop → Type 0
ClipSetupRead name old new (Ok w) = ReadsTo (Clip name) old (AllFiles (setup_with_clips w)) new
ClipSetupRead name old new (Err stop) = StoppedReading (Clip name) old new stop

-- a configuration, its scripts and a journal, whose text spells entries
pub record HasReadJournal (name journal : List ℕ) (old : StoreModel) (w : WithJournal)
    (new : StoreModel) : Type 0 where
  pub scripts : AreAllScripts name old.files (setup_in w.run false)
  pub asked : new ≡ asking_all old (reads (Audit name journal) (setup_in w.run false))
  pub text : IfSome old.files (λ files. IsJournalText (bytes_of journal files) w.entries.items)
  pub few : length w.entries.items ≤ most_journal_bytes

abbrev pub AuditRead : List ℕ → List ℕ → StoreModel → StoreModel → Result WithJournal Stop → Type 0
AuditRead name journal old new (Ok w) = HasReadJournal name journal old w new
AuditRead name journal old new (Err stop) = StoppedReading (Audit name journal) old new stop

-- two configurations with their scripts
abbrev pub BothRead : List ℕ → List ℕ → StoreModel → StoreModel → Result TwoRuns Stop → Type 0
BothRead outer inner old new (Ok t) =
    ReadsTo (Nested outer inner) old (BothFiles (files_in t.outer) (files_in t.inner)) new
BothRead outer inner old new (Err stop) = StoppedReading (Nested outer inner) old new stop

-- ---- a configuration and its scripts

-- the configuration of this name was read, and is valid
pub record ConfigRead (name : List ℕ) (old : StoreModel) (config : Configuration)
    (now : StoreModel) : Type 0 where
  pub asked : now ≡ with_asked old name
  pub configured : IsRunConfiguration config
  pub valid : IfSome old.files (λ files. IsConfig (bytes_of name files) config)

-- and its scripts were read, and can be run
pub record RunRead (name : List ℕ) (old : StoreModel) (l : Loaded)
    (new : StoreModel) : Type 0 where
  pub between : StoreModel
  pub config : ConfigRead name old l.config between
  pub scripts : HasReadScripts l.config between l.scripts.clients.items l.scripts.input new
  pub runnable : (beside : Bool) → IsRunnable (setup_in l beside)

-- and its scripts were read, of which the first client's may show frames
pub record OuterRunRead (name : List ℕ) (old : StoreModel) (l : Loaded)
    (new : StoreModel) : Type 0 where
  pub between : StoreModel
  pub config : ConfigRead name old l.config between
  pub scripts : HasReadOuter l.config between l.scripts.clients.items l.scripts.input new
  pub is_outer : IsOuter (files_in l)

-- a configuration and its scripts were read; or the configuration was not read or is refused, and
-- the stop has this name; or one of the scripts was not read or is refused
abbrev pub IsLoaded : List ℕ → StopName → StoreModel → StoreModel → Result Loaded Stop → Type 0
IsLoaded name said old new (Ok l) = RunRead name old l new
IsLoaded name said old new (Err stop) =
    ((stop.name ≡ said) × StoppedAt IsConfigFault old name new stop.end)
    ⊎ ((config : Configuration) × (between : StoreModel) × ConfigRead name old config between
    × ReadScripts config between new (Err stop))

-- a configuration whose first client is to show frames was read with its scripts; or it was not
-- read or is refused, and the stop has the first name; or one of the scripts was not read or is
-- refused
abbrev pub IsOuterLoaded : List ℕ → StoreModel → StoreModel → Result Loaded Stop → Type 0
IsOuterLoaded name old new (Ok l) = OuterRunRead name old l new
IsOuterLoaded name old new (Err stop) =
    ((stop.name ≡ file_name.First) × StoppedAt IsConfigFault old name new stop.end)
    ⊎ ((config : Configuration) × (between : StoreModel) × ConfigRead name old config between
    × ReadOuter config between new (Err stop))
