-- How far a command has read its files.
use Rattle.std.specs.Prelude.{◌≡◌, ℕ, ◌≤◌, true, List, [], ◌∷◌, ◌++◌, length, take, slice_get}
use Rattle.std.specs.Prelude.{Option, Some, None, IfSome}
use Rattle.nit_setup.specs.Below.{AllByRecursion, AreLines, Configuration, File, FirstShows}
use Rattle.nit_setup.specs.Below.{FitsInputLine, FitsLine, HaveSamePhases, IsRunConfiguration}
use Rattle.nit_setup.specs.Below.{IsRunnable, Line, RunFiles, Setup, by_turns, bytes_of}
use Rattle.nit_setup.specs.Below.{clip_phases, generated_setup, input_phases, nest_of, nested_setup}
use Rattle.nit_setup.specs.Below.{still_setup}
use Rattle.nit_setup.specs.Command.{Command, Still, Run, Gen, Audit, Clip, Capture, Nested}
use Rattle.nit_setup.specs.Command.{NoCommand}
use Rattle.nit_setup.specs.Judgement.{IsConfig, AreClipScripts, AreOuterFiles, AreOuterScripts}
use Rattle.nit_setup.specs.Judgement.{AreScripts, AreSetup, IsValid, MayShowFrames, clip_names}
use Rattle.nit_setup.specs.Judgement.{misfit, names_in, reads, script_names, wanted_by}

-- The files that a command has read, each of which is valid: none; its configuration, and the
-- scripts of the first clients; the configuration and all scripts, which make this setup, where
-- more is to be read, with the first clip scripts; or all files, which make this setup. Where there
-- are two configurations: the outer files; these, the inner configuration and the scripts of its
-- first clients; or the outer and the inner files.
pub data FilesRead : Type 0 where
  NoFile : FilesRead
  FirstFiles : (config : Configuration) → (scripts : List (List Line)) → FilesRead
  AllScripts : Setup → FilesRead
  AllFiles : Setup → FilesRead
  OuterFiles : RunFiles → FilesRead
  InnerFiles : RunFiles → (config : Configuration) → (scripts : List (List Line)) → FilesRead
  BothFiles : RunFiles → RunFiles → FilesRead

-- the names of the first scripts of a configuration, as many as these
abbrev pub first_names : Configuration → List (List Line) → List (List ℕ)
first_names config scripts = take (length scripts) (script_names config)

-- the names of the first clip scripts of a configuration, as many as a setup has
abbrev pub first_clip_names : Setup → List (List ℕ)
first_clip_names s = take (length s.clips) (clip_names s.config)

-- the names of the files that were read, in order
abbrev pub names_read : Command → FilesRead → List (List ℕ)
names_read c NoFile = []
names_read (Still width height script) (FirstFiles config scripts) = []
names_read (Run beside configuration) (FirstFiles config scripts) =
    configuration ∷ first_names config scripts
names_read (Gen number) (FirstFiles config scripts) = []
names_read (Audit configuration journal) (FirstFiles config scripts) =
    configuration ∷ first_names config scripts
names_read (Clip configuration) (FirstFiles config scripts) =
    configuration ∷ first_names config scripts
names_read (Capture configuration region) (FirstFiles config scripts) =
    configuration ∷ first_names config scripts
names_read (Nested outer inner) (FirstFiles config scripts) =
    outer ∷ first_names config scripts
names_read NoCommand (FirstFiles config scripts) = []
names_read (Audit configuration journal) (AllScripts s) = configuration ∷ names_in s.config
names_read (Clip configuration) (AllScripts s) =
    configuration ∷ names_in s.config ++ first_clip_names s
names_read c (AllScripts s) = []
names_read c (AllFiles s) = reads c s
names_read (Nested outer inner) (OuterFiles o) = outer ∷ names_in o.config
names_read c (OuterFiles o) = []
names_read (Nested outer inner) (InnerFiles o config scripts) =
    outer ∷ names_in o.config ++ inner ∷ first_names config scripts
names_read c (InnerFiles o config scripts) = []
names_read (Nested outer inner) (BothFiles o i) =
    outer ∷ names_in o.config ++ inner ∷ names_in i.config
names_read c (BothFiles o i) = []

-- the name of the file that the command reads next
abbrev pub next_name : Command → FilesRead → Option (List ℕ)
next_name (Still width height script) NoFile = Some script
next_name (Run beside configuration) NoFile = Some configuration
next_name (Gen number) NoFile = None
next_name (Audit configuration journal) NoFile = Some configuration
next_name (Clip configuration) NoFile = Some configuration
next_name (Capture configuration region) NoFile = Some configuration
next_name (Nested outer inner) NoFile = Some outer
next_name NoCommand NoFile = None
next_name c (FirstFiles config scripts) = slice_get (names_in config) (length scripts)
next_name (Audit configuration journal) (AllScripts s) = Some journal
next_name (Clip configuration) (AllScripts s) =
    slice_get (clip_names s.config) (length s.clips)
next_name c (AllScripts s) = None
next_name c (AllFiles s) = None
next_name (Nested outer inner) (OuterFiles o) = Some inner
next_name c (OuterFiles o) = None
next_name c (InnerFiles o config scripts) = slice_get (names_in config) (length scripts)
next_name c (BothFiles o i) = None

-- ---- what was read is valid

-- The configuration is within its ranges. The first scripts are within the grammar, and have as
-- many phases as the first of them. Where the store tells its files, these are the configuration
-- and the scripts that it names.
pub record AreFirstFiles (configuration : List ℕ) (told : Option (List File))
    (config : Configuration)
    (scripts : List (List Line)) : Type 0 where
  pub configured : IsRunConfiguration config
  pub lines : AllByRecursion (AreLines FitsLine) scripts
  pub phases : HaveSamePhases scripts
  pub valid : IfSome told (λ files. IsConfig (bytes_of configuration files) config
      × AreScripts files (first_names config scripts) scripts)

-- Each script is within the grammar, and the first holds no line that may not stand there. Where
-- the
-- store tells its files, these are the outer configuration and the first scripts that it names.
pub record AreFirstOuterFiles (outer : List ℕ) (told : Option (List File))
    (config : Configuration) (scripts : List (List Line)) : Type 0 where
  pub configured : IsRunConfiguration config
  pub lines : AllByRecursion (AreLines FitsLine) scripts
  pub may : MayShowFrames scripts
  pub valid : IfSome told (λ files. IsConfig (bytes_of outer files) config
      × AreOuterScripts files (first_names config scripts) scripts)

-- The configuration is within its ranges, and there is a script for each client. All scripts are
-- within the grammar, and the first holds no line that may not stand there.
pub record IsOuter (o : RunFiles) : Type 0 where
  pub configured : IsRunConfiguration o.config
  pub count : length o.scripts ≡ length o.config.clients
  pub lines : AllByRecursion (AreLines FitsLine) o.scripts
  pub input_lines : AreLines FitsInputLine o.input
  pub may : MayShowFrames o.scripts

-- Where the store tells its files, these are the configuration of this name and its scripts.
pub record AreAllOuterFiles (outer : List ℕ) (told : Option (List File))
    (o : RunFiles) : Type 0 where
  pub is_outer : IsOuter o
  pub valid : IfSome told (λ files. AreOuterFiles outer files o)

-- the inner files can be run by turns, the outer scripts can show their frames, and this is the
-- setup in which the first one does
pub record IsNested (inner : List ℕ) (s : Setup) : Type 0 where
  pub o : RunFiles
  pub i : RunFiles
  pub is_outer : IsOuter o
  pub runnable : IsRunnable (by_turns i)
  pub fits : misfit inner o i ≡ None
  pub setup : s ≡ nested_setup o i
  pub shows : FirstShows (nest_of i) s.scripts

-- for `still` the setup is that of a picture of this size, whatever the script; for `turns` and
-- `run` it has texts, makes no file, and its clients are beside each other for `run` alone; for
-- `gen` it is that of the number; for `clip` it is as for `run`, with a clip script for each
-- client;
-- for `capture` it is as for `run`; for `nested` it is that in which the first client shows frames;
-- and `audit` runs none
abbrev pub IsSetupOf : Command → Setup → Type 0
IsSetupOf (Still width height script) s = (lines : List Line) × (s ≡ still_setup width height lines)
IsSetupOf (Run beside configuration) s =
    (s.texts ≡ true) × (s.beside ≡ beside) × (s.made ≡ []) × (s.clips ≡ [])
IsSetupOf (Gen number) s = s ≡ generated_setup number
IsSetupOf (Audit configuration journal) s = ⊥
IsSetupOf (Clip configuration) s = (s.texts ≡ true) × (s.beside ≡ true) × (s.made ≡ [])
    × (length s.clips ≡ length s.scripts)
IsSetupOf (Capture configuration region) s =
    (s.texts ≡ true) × (s.beside ≡ true) × (s.made ≡ []) × (s.clips ≡ [])
IsSetupOf (Nested outer inner) s = IsNested inner s
IsSetupOf NoCommand s = ⊥

-- The setup can be run, and is one of the command. Where the store tells its files, it is what
-- these are.
pub record AreAllFiles (c : Command) (told : Option (List File)) (s : Setup) : Type 0 where
  pub runnable : IsRunnable s
  pub of_command : IsSetupOf c s
  pub valid : IfSome told (λ files. IsValid c files s)

-- The setup can be run. Where the store tells its files, it is what the configuration of this name
-- and its scripts are.
pub record AreAllScripts (configuration : List ℕ) (told : Option (List File)) (s : Setup)
    : Type 0 where
  pub runnable : IsRunnable s
  pub valid : IfSome told (λ files. AreSetup configuration files s)

-- The setup without its clip scripts is that of a configuration and its scripts, and the first clip
-- scripts have as many phases as are wanted. Where the store tells its files, they are what the
-- files of their names are.
pub record AreFirstClips (configuration : List ℕ) (told : Option (List File)) (s : Setup)
    : Type 0 where
  pub scripts : AreAllScripts configuration told (record s { clips = [] })
  pub few : length s.clips ≤ length s.scripts
  pub phases : AllByRecursion (λ lines. clip_phases lines ≡ input_phases s.input) s.clips
  pub valid_clips : IfSome told (λ files. AreClipScripts files (wanted_by s.scripts)
      (first_clip_names s) s.clips)

-- the files that a command has read are its files, and are valid
abbrev pub HasRead : Command → Option (List File) → FilesRead → Type 0
HasRead c told NoFile = Unit {0}
HasRead (Still width height script) told (FirstFiles config scripts) = ⊥
HasRead (Run beside configuration) told (FirstFiles config scripts) =
    AreFirstFiles configuration told config scripts
HasRead (Gen number) told (FirstFiles config scripts) = ⊥
HasRead (Audit configuration journal) told (FirstFiles config scripts) =
    AreFirstFiles configuration told config scripts
HasRead (Clip configuration) told (FirstFiles config scripts) =
    AreFirstFiles configuration told config scripts
HasRead (Capture configuration region) told (FirstFiles config scripts) =
    AreFirstFiles configuration told config scripts
HasRead (Nested outer inner) told (FirstFiles config scripts) =
    AreFirstOuterFiles outer told config scripts
HasRead NoCommand told (FirstFiles config scripts) = ⊥
HasRead (Audit configuration journal) told (AllScripts s) = AreAllScripts configuration told s
HasRead (Clip configuration) told (AllScripts s) = AreFirstClips configuration told s
HasRead c told (AllScripts s) = ⊥
HasRead c told (AllFiles s) = AreAllFiles c told s
HasRead (Nested outer inner) told (OuterFiles o) = AreAllOuterFiles outer told o
HasRead c told (OuterFiles o) = ⊥
HasRead (Nested outer inner) told (InnerFiles o config scripts) =
    AreAllOuterFiles outer told o × AreFirstFiles inner told config scripts
HasRead c told (InnerFiles o config scripts) = ⊥
HasRead (Nested outer inner) told (BothFiles o i) =
    AreAllOuterFiles outer told o × AreAllScripts inner told (by_turns i)
HasRead c told (BothFiles o i) = ⊥
