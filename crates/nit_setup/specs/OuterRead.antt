-- How the files of the outer configuration are read and judged, one after the other.
use Rattle.std.specs.Prelude.{◌≡◌, ◌⊎◌, ℕ, List, ◌∷◌, ◌++◌, length, None, Result, Ok, Err, IfSome}
use Rattle.std.specs.Prelude.{Vec}
use Rattle.nit_setup.specs.Below.{AllByRecursion, AreLines, Configuration, FitsLine, Global}
use Rattle.nit_setup.specs.Below.{InputLine, Line, Scripts, Stop, StoreModel, asking_all, bytes_of}
use Rattle.nit_setup.specs.Below.{with_asked}
use Rattle.nit_setup.specs.Judgement.{SpellScripts, script_names, MayShowFrames, AreOuterScripts}
use Rattle.nit_setup.specs.Judgement.{IsOuterFault, IsInputScript, IsInputFault}
use Rattle.nit_setup.specs.StopNames.{IsNameOf}
use Rattle.nit_setup.specs.Reading.{StoppedAt}

-- The script of one name was not read or is refused, or memory ran out there; those before it are
-- valid.
pub record OuterStopped (old : StoreModel) (names : List (List ℕ)) (new : StoreModel)
    (stop : Stop) : Type 0 where
  pub before : List (List ℕ)
  pub name : List ℕ
  pub behind : List (List ℕ)
  pub parts : names ≡ before ++ name ∷ behind
  pub named : IsNameOf stop.name name
  pub scripts : List (List Line)
  pub count : length scripts ≡ length before
  pub lines : AllByRecursion (AreLines FitsLine) scripts
  pub may : MayShowFrames scripts
  pub valid : IfSome old.files (λ files. AreOuterScripts files before scripts)
  pub stopped : StoppedAt (IsOuterFault scripts) (asking_all old before) name new stop.end

-- The scripts of these names were read, and are valid.
pub record OuterSoFar (old : StoreModel) (names : List (List ℕ)) (scripts : List (List Line))
    (now : StoreModel) : Type 0 where
  pub asked : now ≡ asking_all old names
  pub count : length scripts ≡ length names
  pub lines : AllByRecursion (AreLines FitsLine) scripts
  pub may : MayShowFrames scripts
  pub valid : IfSome old.files (λ files. SpellScripts files names scripts)

-- the scripts of these names were read and judged, in order
abbrev pub OuterLoaded : StoreModel → List (List ℕ) → StoreModel
    → Result (Vec (List Line) Global) Stop → Type 0
OuterLoaded old names new (Ok scripts) = OuterSoFar old names scripts.items new
OuterLoaded old names new (Err stop) = OuterStopped old names new stop

-- The scripts of the clients were read, and then the input script, and all are valid.
pub record HasReadOuter (config : Configuration) (old : StoreModel) (scripts : List (List Line))
    (input : List InputLine) (now : StoreModel) : Type 0 where
  pub between : StoreModel
  pub clients : OuterSoFar old (script_names config) scripts between
  pub asked : now ≡ with_asked between config.input
  pub valid : IfSome between.files
      (λ files. IsInputScript None (bytes_of config.input files) input)

-- The scripts of the clients are valid. The input script was not read or is refused, or memory ran
-- out there.
pub record OuterStoppedAtInput (config : Configuration) (old new : StoreModel)
    (stop : Stop) : Type 0 where
  pub scripts : List (List Line)
  pub between : StoreModel
  pub clients : OuterSoFar old (script_names config) scripts between
  pub named : IsNameOf stop.name config.input
  pub stopped : StoppedAt (IsInputFault None) between config.input new stop.end

-- the scripts of the outer configuration were read and judged, in order
abbrev pub ReadOuter : Configuration → StoreModel → StoreModel → Result Scripts Stop → Type 0
ReadOuter config old new (Ok s) = HasReadOuter config old s.clients.items s.input new
ReadOuter config old new (Err stop) = OuterStopped old (script_names config) new stop
    ⊎ OuterStoppedAtInput config old new stop
