-- What the files make of the command that names them. They are judged one by one, in the order in
-- which they are read.
use Rattle.std.specs.Prelude.{◌≡◌, ◌⊎◌, ℕ, ◌<◌, ◌≤◌, ◌==◌, Bool, true, false, List, [], ◌∷◌, ◌++◌}
use Rattle.std.specs.Prelude.{length, map, codes, Option, Some, None, option_map, if◌then◌else◌}
use Rattle.nit_setup.specs.Below.{AllZip, ClipLine, Configuration, Fault, File, FitsClipLine}
use Rattle.nit_setup.specs.Below.{FitsInputLine, FitsLine, HaveSamePhases, InputLine}
use Rattle.nit_setup.specs.Below.{IsConfigurationOf, IsFirstBad, IsTooLong, Line, Reads, RunFiles}
use Rattle.nit_setup.specs.Below.{Setup, by_turns, bytes_of, clip_line_spelling, first_forbidden}
use Rattle.nit_setup.specs.Below.{frames_of, generated_setup, input_phases, input_spelling}
use Rattle.nit_setup.specs.Below.{is_clip_phase, is_input_phase, is_phase, is_too_long}
use Rattle.nit_setup.specs.Below.{line_spelling, most_lines, nest_of, nested_setup, phases}
use Rattle.nit_setup.specs.Below.{phases_by, still_setup}
use Rattle.nit_config.specs.ConfigurationText.{MeetsRefusal as IsRefusedConfig}
use Rattle.nit_setup.specs.Command.{Command, Still, Run, Gen, Audit, Clip, Capture, Nested}
use Rattle.nit_setup.specs.Command.{NoCommand}
use Rattle.nit_setup.specs.JournalFiles.{HasVerdict, IsJournalFault}
use Rattle.nit_setup.specs.declared.stop.Fault.TheVariants as fault
use Rattle.nit_audit.specs.declared.auditing.Verdict.TheVariants as verdict

-- the bytes of a configuration's file, and of a script's
abbrev pub most_bytes : ℕ
most_bytes = 1048576

-- ---- a configuration

-- at most 1,048,576 bytes that are this configuration
abbrev pub IsConfig : List ℕ → Configuration → Type 0
IsConfig bytes config = (length bytes ≤ most_bytes) × IsConfigurationOf bytes config

-- more bytes than that, or bytes that meet this refusal
abbrev pub IsConfigFault : List ℕ → Fault → Type 0
IsConfigFault bytes (fault.BadConfig error) = (length bytes ≤ most_bytes)
    × IsRefusedConfig bytes error
IsConfigFault bytes fault.LongConfig = most_bytes < length bytes
IsConfigFault bytes other = ⊥

-- ---- a script, for each kind of line

-- at most 1,048,576 bytes that spell at most 65,536 lines
abbrev pub IsScript : {L : Type 0} → (L → Type 0) → (L → List ℕ) → List ℕ → List L → Type 0
IsScript Fits spelling bytes lines = (length bytes ≤ most_bytes) × Reads Fits spelling bytes lines
    × (length lines ≤ most_lines)

-- the first line without a reading; or more bytes than that, or bytes behind 65,536 lines
abbrev pub IsNoScript : {L : Type 0} → (L → Type 0) → (L → List ℕ) → List ℕ → Fault → Type 0
IsNoScript Fits spelling bytes (fault.BadLine number) = (length bytes ≤ most_bytes)
    × IsFirstBad Fits spelling bytes number
IsNoScript Fits spelling bytes fault.TooLong = (most_bytes < length bytes)
    ⊎ IsTooLong Fits spelling bytes
IsNoScript Fits spelling bytes other = ⊥

-- the bytes are no script; or they are one, and this is what is wrong with its lines
abbrev pub IsFaulty : {L : Type 0} → (L → Type 0) → (L → List ℕ) → (List L → Option Fault) → List ℕ
    → Fault → Type 0
IsFaulty {L = L} Fits spelling wrong bytes f = IsNoScript Fits spelling bytes f
    ⊎ ((lines : List L) × IsScript Fits spelling bytes lines × (wrong lines ≡ Some f))

-- where so many phases are wanted: another number is wrong
abbrev pub wrong_phases : Option ℕ → ℕ → Option Fault
wrong_phases None count = None
wrong_phases (Some wanted) count = if count == wanted then None else Some fault.PhasesDiffer

-- another number of phases than is wanted is wrong with lines, by which of them end a phase
abbrev pub wrong_lines : {L : Type 0} → (L → Bool) → Option ℕ → List L → Option Fault
wrong_lines ends wanted lines = wrong_phases wanted (phases_by ends lines)

-- a script that has as many phases as are wanted
abbrev pub IsPhasedScript : {L : Type 0} → (L → Type 0) → (L → List ℕ) → (L → Bool) → Option ℕ
    → List ℕ → List L → Type 0
IsPhasedScript Fits spelling ends wanted bytes lines =
    IsScript Fits spelling bytes lines × (wrong_lines ends wanted lines ≡ None)

-- and what is wrong with bytes that are none
abbrev pub IsPhasedFault : {L : Type 0} → (L → Type 0) → (L → List ℕ) → (L → Bool) → Option ℕ
    → List ℕ → Fault → Type 0
IsPhasedFault Fits spelling ends wanted bytes f =
    IsFaulty Fits spelling (wrong_lines ends wanted) bytes f

-- of a client's script
abbrev pub wrong_client : Option ℕ → List Line → Option Fault
wrong_client = wrong_lines is_phase

abbrev pub IsClientScript : Option ℕ → List ℕ → List Line → Type 0
IsClientScript = IsPhasedScript FitsLine line_spelling is_phase

abbrev pub IsClientFault : Option ℕ → List ℕ → Fault → Type 0
IsClientFault = IsPhasedFault FitsLine line_spelling is_phase

-- of an input script
abbrev pub wrong_input : Option ℕ → List InputLine → Option Fault
wrong_input = wrong_lines is_input_phase

abbrev pub IsInputScript : Option ℕ → List ℕ → List InputLine → Type 0
IsInputScript = IsPhasedScript FitsInputLine input_spelling is_input_phase

abbrev pub IsInputFault : Option ℕ → List ℕ → Fault → Type 0
IsInputFault = IsPhasedFault FitsInputLine input_spelling is_input_phase

-- of a clip script
abbrev pub wrong_clip : Option ℕ → List ClipLine → Option Fault
wrong_clip = wrong_lines is_clip_phase

abbrev pub IsClipScript : Option ℕ → List ℕ → List ClipLine → Type 0
IsClipScript = IsPhasedScript FitsClipLine clip_line_spelling is_clip_phase

abbrev pub IsClipFault : Option ℕ → List ℕ → Fault → Type 0
IsClipFault = IsPhasedFault FitsClipLine clip_line_spelling is_clip_phase

-- ---- the scripts of a configuration

-- the names of the clients' scripts
abbrev pub script_names : Configuration → List (List ℕ)
script_names config = map (λ m. m.script) config.clients

-- the clients' scripts, and then the input script
abbrev pub names_in : Configuration → List (List ℕ)
names_in config = script_names config ++ config.input ∷ []

-- as many phases are wanted as the first client's script has
abbrev pub wanted_by : List (List Line) → Option ℕ
wanted_by [] = None
wanted_by (first ∷ rest) = Some (phases first)

-- the files of these names are these scripts
abbrev pub SpellScripts : List File → List (List ℕ) → List (List Line) → Type 0
SpellScripts files names scripts =
    AllZip (λ name lines. IsScript FitsLine line_spelling (bytes_of name files) lines) names scripts

-- and all have as many phases as the first
abbrev pub AreScripts : List File → List (List ℕ) → List (List Line) → Type 0
AreScripts files names scripts = SpellScripts files names scripts × HaveSamePhases scripts

-- one of the clients' scripts has the fault, and those before it have none
pub record IsFirstFault (files : List File) (names : List (List ℕ)) (name : List ℕ)
    (f : Fault) : Type 0 where
  pub before : List (List ℕ)
  pub behind : List (List ℕ)
  pub parts : names ≡ before ++ name ∷ behind
  pub scripts : List (List Line)
  pub valid : AreScripts files before scripts
  pub fault : IsClientFault (wanted_by scripts) (bytes_of name files) f

-- the input script has the fault, and the clients' scripts have none
pub record IsInputsFault (files : List File) (config : Configuration) (name : List ℕ)
    (f : Fault) : Type 0 where
  pub scripts : List (List Line)
  pub valid : AreScripts files (script_names config) scripts
  pub name_is : name ≡ config.input
  pub fault : IsInputFault (wanted_by scripts) (bytes_of name files) f

-- the files of a configuration's names are the setup's scripts
pub record AreRead (files : List File) (s : Setup) : Type 0 where
  pub scripts : AreScripts files (script_names s.config) s.scripts
  pub input : IsInputScript (wanted_by s.scripts) (bytes_of s.config.input files) s.input

-- ---- the clip scripts of a configuration

-- the name of a client's clip script: that of its script, and `.clip` behind it
abbrev pub clip_name : List ℕ → List ℕ
clip_name script = script ++ codes ".clip"

-- the names of the clip scripts of a configuration's clients, in order
abbrev pub clip_names : Configuration → List (List ℕ)
clip_names config = map clip_name (script_names config)

-- the files of these names are these clip scripts, and each has as many phases as are wanted
abbrev pub AreClipScripts : List File → Option ℕ → List (List ℕ) → List (List ClipLine) → Type 0
AreClipScripts files wanted names clips =
    AllZip (λ name lines. IsClipScript wanted (bytes_of name files) lines) names clips

-- one of the clip scripts has the fault, and those before it have none
pub record IsFirstClipFault (files : List File) (wanted : Option ℕ) (names : List (List ℕ))
    (name : List ℕ) (f : Fault) : Type 0 where
  pub before : List (List ℕ)
  pub behind : List (List ℕ)
  pub parts : names ≡ before ++ name ∷ behind
  pub clips : List (List ClipLine)
  pub valid : AreClipScripts files wanted before clips
  pub fault : IsClipFault wanted (bytes_of name files) f

-- ---- the scripts of a configuration whose first client shows frames

-- behind these scripts: the first client's is to hold no line that may not stand there; no number
-- of phases is wanted yet
abbrev pub wrong_outer : List (List Line) → List Line → Option Fault
wrong_outer [] lines = option_map fault.BadLine (first_forbidden 1 lines)
wrong_outer (first ∷ rest) lines = None

-- the first of some scripts holds no such line
abbrev pub MayShowFrames : List (List Line) → Type 0
MayShowFrames [] = Unit {0}
MayShowFrames (first ∷ rest) = first_forbidden 1 first ≡ None

abbrev pub IsOuterScript : List (List Line) → List ℕ → List Line → Type 0
IsOuterScript before bytes lines = IsScript FitsLine line_spelling bytes lines
    × (wrong_outer before lines ≡ None)

abbrev pub IsOuterFault : List (List Line) → List ℕ → Fault → Type 0
IsOuterFault before bytes f = IsFaulty FitsLine line_spelling (wrong_outer before) bytes f

-- the files of these names are these scripts, and the first holds no line that may not stand there
abbrev pub AreOuterScripts : List File → List (List ℕ) → List (List Line) → Type 0
AreOuterScripts files names scripts = SpellScripts files names scripts × MayShowFrames scripts

-- one of the clients' scripts has the fault, and those before it have none
pub record IsFirstOuterFault (files : List File) (names : List (List ℕ)) (name : List ℕ)
    (f : Fault) : Type 0 where
  pub before : List (List ℕ)
  pub behind : List (List ℕ)
  pub parts : names ≡ before ++ name ∷ behind
  pub scripts : List (List Line)
  pub valid : AreOuterScripts files before scripts
  pub fault : IsOuterFault scripts (bytes_of name files) f

-- the input script has the fault, and the clients' scripts have none
pub record IsOuterInputFault (files : List File) (config : Configuration) (name : List ℕ)
    (f : Fault) : Type 0 where
  pub scripts : List (List Line)
  pub valid : AreOuterScripts files (script_names config) scripts
  pub name_is : name ≡ config.input
  pub fault : IsInputFault None (bytes_of name files) f

-- the configuration has the fault; or it has none, and one of its scripts is the first that has it
abbrev pub IsOuterSetupFault : List ℕ → List File → List ℕ → Fault → Type 0
IsOuterSetupFault outer files name f =
    ((name ≡ outer) × IsConfigFault (bytes_of outer files) f)
    ⊎ ((config : Configuration) × IsConfig (bytes_of outer files) config
    × (IsFirstOuterFault files (script_names config) name f
    ⊎ IsOuterInputFault files config name f))

-- the configuration of this name and its scripts are these
pub record AreOuterFiles (outer : List ℕ) (files : List File) (o : RunFiles) : Type 0 where
  pub config : IsConfig (bytes_of outer files) o.config
  pub scripts : AreOuterScripts files (script_names o.config) o.scripts
  pub input : IsInputScript None (bytes_of o.config.input files) o.input

-- ---- frames that are too many or too long for the scripts that are to show them

-- the numbers of phases of the clients' scripts, in order, and of the input script
abbrev pub phase_counts : RunFiles → List ℕ
phase_counts o = map phases o.scripts ++ input_phases o.input ∷ []

-- the first of these names whose script has another number of phases than is wanted
abbrev pub first_other : ℕ → List (List ℕ) → List ℕ → Option (List ℕ)
first_other wanted (name ∷ names) (count ∷ counts) =
    if count == wanted then first_other wanted names counts else Some name
first_other wanted names counts = None

-- the inner run's frames are too long
abbrev pub too_long_for : List ℕ → Bool → Option (List ℕ × Fault)
too_long_for inner true = Some (inner, fault.FramesTooLong)
too_long_for inner false = None

-- a script has another number of phases; or none has, and the frames may be too long
abbrev pub unless_other : Option (List ℕ) → Option (List ℕ × Fault) → Option (List ℕ × Fault)
unless_other (Some name) long = Some (name, fault.PhasesDiffer)
unless_other None long = long

-- Why the scripts of the outer files cannot show the frames of the inner ones, and the file that is
-- to blame: first a script that has not as many phases as there are frames, in the order of the
-- clients and then the input script; then frames that are too long.
abbrev pub misfit : List ℕ → RunFiles → RunFiles → Option (List ℕ × Fault)
misfit inner o i =
    unless_other (first_other (length (frames_of i)) (names_in o.config) (phase_counts o))
    (too_long_for inner (is_too_long (nest_of i) o.scripts))

-- ---- a command

-- The files are valid, and this is what is to be run; or the file of this name is the first that is
-- refused, and this is why.
pub data Judgement : Type 0 where
  Valid : Setup → Judgement
  Refused : List ℕ → Fault → Judgement

-- the configuration has the fault; or it has none, and one of its scripts is the first that has it
abbrev pub IsSetupFault : List ℕ → List File → List ℕ → Fault → Type 0
IsSetupFault configuration files name f =
    ((name ≡ configuration) × IsConfigFault (bytes_of configuration files) f)
    ⊎ ((config : Configuration) × IsConfig (bytes_of configuration files) config
    × (IsFirstFault files (script_names config) name f ⊎ IsInputsFault files config name f))

-- the configuration and its scripts are this setup's
abbrev pub AreSetup : List ℕ → List File → Setup → Type 0
AreSetup configuration files s = IsConfig (bytes_of configuration files) s.config × AreRead files s

-- the judgement of the files of a configuration that is to be run, with its clients beside each
-- other or not
abbrev pub JudgedRun : Bool → List ℕ → List File → Judgement → Type 0
JudgedRun beside configuration files (Valid s) =
    IsConfig (bytes_of configuration files) s.config × AreRead files s × (s.texts ≡ true)
    × (s.beside ≡ beside) × (s.made ≡ []) × (s.clips ≡ [])
JudgedRun beside configuration files (Refused name f) = IsSetupFault configuration files name f

-- the judgement of the files of a configuration that is to be run with a clip script for each
-- client, behind all other scripts
abbrev pub JudgedClips : List ℕ → List File → Judgement → Type 0
JudgedClips configuration files (Valid s) =
    AreSetup configuration files s × (s.texts ≡ true) × (s.beside ≡ true) × (s.made ≡ [])
    × AreClipScripts files (wanted_by s.scripts) (clip_names s.config) s.clips
JudgedClips configuration files (Refused name f) =
    IsSetupFault configuration files name f
    ⊎ ((s : Setup) × AreSetup configuration files s
    × IsFirstClipFault files (wanted_by s.scripts) (clip_names s.config) name f)

-- The judgement of the files of two configurations, the first client of the outer one being to show
-- what the inner one's run by turns shows. The outer files are judged first, then the inner ones,
-- and then whether the frames fit.
abbrev pub JudgedNested : List ℕ → List ℕ → List File → Judgement → Type 0
JudgedNested outer inner files (Valid s) = (o : RunFiles) × (i : RunFiles)
    × AreOuterFiles outer files o × AreSetup inner files (by_turns i) × (misfit inner o i ≡ None)
    × (s ≡ nested_setup o i)
JudgedNested outer inner files (Refused name f) = IsOuterSetupFault outer files name f
    ⊎ ((o : RunFiles) × AreOuterFiles outer files o × (IsSetupFault inner files name f
    ⊎ ((i : RunFiles) × AreSetup inner files (by_turns i)
    × (misfit inner o i ≡ Some (name, f)))))

-- the judgement of a command over the files that it names
abbrev pub Judged : Command → List File → Judgement → Type 0
Judged (Still width height script) files (Valid s) = (lines : List Line)
    × IsClientScript None (bytes_of script files) lines × (s ≡ still_setup width height lines)
Judged (Still width height script) files (Refused name f) = (name ≡ script)
    × IsClientFault None (bytes_of script files) f
Judged (Run beside configuration) files j = JudgedRun beside configuration files j
Judged (Gen number) files (Valid s) = s ≡ generated_setup number
Judged (Gen number) files (Refused name f) = ⊥
Judged (Audit configuration journal) files (Valid s) =
    AreSetup configuration files s × HasVerdict s (bytes_of journal files) verdict.Yes
Judged (Audit configuration journal) files (Refused name f) =
    IsSetupFault configuration files name f
    ⊎ ((name ≡ journal) × ((s : Setup) × AreSetup configuration files s
    × IsJournalFault s (bytes_of journal files) f))
Judged (Clip configuration) files j = JudgedClips configuration files j
Judged (Capture configuration region) files j = JudgedRun true configuration files j
Judged (Nested outer inner) files j = JudgedNested outer inner files j
Judged NoCommand files j = ⊥

abbrev pub IsValid : Command → List File → Setup → Type 0
IsValid c files s = Judged c files (Valid s)

-- the status of a refusal: 5 for a configuration, 6 for a script; for a journal 8 where its text is
-- refused, and 9 where it is none of a run; 11 for frames that are too long
abbrev pub fault_code : Fault → ℕ
fault_code (fault.BadConfig error) = 5
fault_code fault.LongConfig = 5
fault_code (fault.BadLine number) = 6
fault_code fault.TooLong = 6
fault_code fault.PhasesDiffer = 6
fault_code fault.LongJournal = 8
fault_code (fault.BadEntry number) = 8
fault_code (fault.NotARun number) = 9
fault_code fault.FramesTooLong = 11

-- the command's files are refused with this status
abbrev pub IsRefusedWith : ℕ → Command → List File → Type 0
IsRefusedWith status c files = (name : List ℕ) × (f : Fault) × Judged c files (Refused name f)
    × (fault_code f ≡ status)

-- ---- the names that are read

-- the inner files, where there are some
abbrev pub inner_names : List ℕ → Option RunFiles → List (List ℕ)
inner_names inner (Some i) = inner ∷ names_in i.config
inner_names inner None = []

-- the names that a command reads, in order, where this is what it runs
abbrev pub reads : Command → Setup → List (List ℕ)
reads (Still width height script) s = script ∷ []
reads (Run beside configuration) s = configuration ∷ names_in s.config
reads (Gen number) s = []
reads (Audit configuration journal) s = configuration ∷ names_in s.config ++ journal ∷ []
reads (Clip configuration) s = configuration ∷ names_in s.config ++ clip_names s.config
reads (Capture configuration region) s = configuration ∷ names_in s.config
reads (Nested outer inner) s = outer ∷ names_in s.config ++ inner_names inner s.inner
reads NoCommand s = []
