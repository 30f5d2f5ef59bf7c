-- How the files of a command are read and judged, one after the other.
use Rattle.std.specs.Prelude.{◌≡◌, ◌⊎◌, ℕ, ◌<◌, ◌≤◌, List, ◌∷◌, ◌++◌, length, Result, Ok, Err}
use Rattle.std.specs.Prelude.{IfSome, Vec}
use Rattle.nit_setup.specs.Below.{AllByRecursion, AreLines, AskedAtMost, Configuration, End, Fault}
use Rattle.nit_setup.specs.Below.{File, FitsLine, Global, HaveSamePhases, InputLine, JournalError}
use Rattle.nit_setup.specs.Below.{Line, ReadFaulted, ScriptError, Scripts, Stop, StoreModel}
use Rattle.nit_setup.specs.Below.{asking_all, bytes_of, with_asked}
use Rattle.nit_setup.specs.Judgement.{SpellScripts, wanted_by, script_names, IsClientFault}
use Rattle.nit_setup.specs.Judgement.{IsInputScript, IsInputFault, AreScripts}
use Rattle.nit_setup.specs.StopNames.{IsNameOf}
use Rattle.nit_script.specs.declared.error.ScriptError.TheVariants as script
use Rattle.nit_report.specs.declared.error.JournalError.TheVariants as journal
use Rattle.nit_setup.specs.declared.stop.End.TheVariants as end
use Rattle.nit_setup.specs.declared.stop.Fault.TheVariants as fault

-- ---- reading and judging a file

-- the bytes of a file were judged, unless memory ran out
abbrev pub JudgedBytes : {V : Type 0} → (List ℕ → V → Type 0) → (List ℕ → Fault → Type 0) → List ℕ
    → Result V End → Type 0
JudgedBytes Valid Faulty bytes (Ok v) = Valid bytes v
JudgedBytes Valid Faulty bytes (Err (end.Refused f)) = Faulty bytes f
JudgedBytes Valid Faulty bytes (Err end.NoMemory) = Unit {0}
JudgedBytes Valid Faulty bytes (Err other) = ⊥

-- a file of at most so many bytes was read, where this is the fault of one with more
abbrev pub ReadFor : ℕ → Fault → StoreModel → List ℕ → StoreModel → Result (Vec ℕ Global) End
    → Type 0
ReadFor max long old name new (Ok bytes) =
    (new ≡ with_asked old name) × (length bytes.items ≤ max)
    × IfSome old.files (λ files. bytes.items ≡ bytes_of name files)
ReadFor max long old name new (Err end.ReadFault) = ReadFaulted (with_asked old name) new
ReadFor max long old name new (Err (end.Refused f)) =
    (f ≡ long) × (new ≡ with_asked old name)
    × IfSome old.files (λ files. max < length (bytes_of name files))
ReadFor max long old name new (Err end.NoMemory) = AskedAtMost old name new
ReadFor max long old name new (Err other) = ⊥

-- how the work ends where bytes are no script
abbrev pub end_of_script : ScriptError → End
end_of_script (script.Bad number) = end.Refused (fault.BadLine number)
end_of_script script.TooLong = end.Refused fault.TooLong
end_of_script script.NoMemory = end.NoMemory

-- how the work ends where bytes are no journal
abbrev pub end_of_journal : JournalError → End
end_of_journal (journal.Bad number) = end.Refused (fault.BadEntry number)
end_of_journal journal.NoMemory = end.NoMemory

-- a file of this name was not read, or is what the files are refused for, or memory ran out
abbrev pub StoppedBy : (List File → Fault → Type 0) → StoreModel → List ℕ → StoreModel → End
    → Type 0
StoppedBy Refuse old name new end.ReadFault = ReadFaulted (with_asked old name) new
StoppedBy Refuse old name new (end.Refused f) = (new ≡ with_asked old name)
    × IfSome old.files (λ files. Refuse files f)
StoppedBy Refuse old name new end.NoMemory = AskedAtMost old name new
StoppedBy Refuse old name new other = ⊥

-- where a file of this name was not read, or its bytes have a fault
abbrev pub StoppedAt : (List ℕ → Fault → Type 0) → StoreModel → List ℕ → StoreModel → End → Type 0
StoppedAt Faulty old name new end =
    StoppedBy (λ files f. Faulty (bytes_of name files) f) old name new end

-- a file was read and judged, or so the work ends
abbrev pub FileJudged : {V : Type 0} → (List ℕ → V → Type 0) → (List ℕ → Fault → Type 0)
    → StoreModel → List ℕ → StoreModel → Result V End → Type 0
FileJudged Valid Faulty old name new (Ok v) = (new ≡ with_asked old name)
    × IfSome old.files (λ files. Valid (bytes_of name files) v)
FileJudged Valid Faulty old name new (Err end) = StoppedAt Faulty old name new end

-- The script of one name was not read or is refused, or memory ran out there; those before it are
-- valid.
pub record StoppedAmong (old : StoreModel) (names : List (List ℕ)) (new : StoreModel)
    (stop : Stop) : Type 0 where
  pub before : List (List ℕ)
  pub name : List ℕ
  pub behind : List (List ℕ)
  pub parts : names ≡ before ++ name ∷ behind
  pub named : IsNameOf stop.name name
  pub scripts : List (List Line)
  pub count : length scripts ≡ length before
  pub lines : AllByRecursion (AreLines FitsLine) scripts
  pub phases : HaveSamePhases scripts
  pub valid : IfSome old.files (λ files. AreScripts files before scripts)
  pub stopped : StoppedAt (IsClientFault (wanted_by scripts)) (asking_all old before) name new
      stop.end

-- The scripts of these names were read, and are valid.
pub record SoFar (old : StoreModel) (names : List (List ℕ)) (scripts : List (List Line))
    (now : StoreModel) : Type 0 where
  pub asked : now ≡ asking_all old names
  pub count : length scripts ≡ length names
  pub lines : AllByRecursion (AreLines FitsLine) scripts
  pub phases : HaveSamePhases scripts
  pub valid : IfSome old.files (λ files. SpellScripts files names scripts)

-- the scripts of these names were read and judged, in order
abbrev pub LoadedAll : StoreModel → List (List ℕ) → StoreModel
    → Result (Vec (List Line) Global) Stop → Type 0
LoadedAll old names new (Ok scripts) = SoFar old names scripts.items new
LoadedAll old names new (Err stop) = StoppedAmong old names new stop

-- ---- all scripts of a configuration

-- The scripts of the clients were read, and then the input script, and all are valid.
pub record HasReadScripts (config : Configuration) (old : StoreModel) (scripts : List (List Line))
    (input : List InputLine) (now : StoreModel) : Type 0 where
  pub between : StoreModel
  pub clients : SoFar old (script_names config) scripts between
  pub asked : now ≡ with_asked between config.input
  pub valid : IfSome between.files
      (λ files. IsInputScript (wanted_by scripts) (bytes_of config.input files) input)

-- The scripts of the clients are valid. The input script was not read or is refused, or memory ran
-- out there.
pub record StoppedAtInput (config : Configuration) (old new : StoreModel)
    (stop : Stop) : Type 0 where
  pub scripts : List (List Line)
  pub between : StoreModel
  pub clients : SoFar old (script_names config) scripts between
  pub named : IsNameOf stop.name config.input
  pub stopped : StoppedAt (IsInputFault (wanted_by scripts)) between config.input new stop.end

-- the scripts of a configuration were read and judged, in order
abbrev pub ReadScripts : Configuration → StoreModel → StoreModel → Result Scripts Stop → Type 0
ReadScripts config old new (Ok s) = HasReadScripts config old s.clients.items s.input new
ReadScripts config old new (Err stop) = StoppedAmong old (script_names config) new stop
    ⊎ StoppedAtInput config old new stop
