-- What a run is made of.
use Rattle.std.specs.Prelude.{◌≡◌, ◌⊎◌, ℕ, ◌≤◌, Bool, false, true, List, [], ◌∷◌, ◌++◌, length, map}
use Rattle.std.specs.Prelude.{codes, Option, None}
use Rattle.nit_run.specs.Below.{AllByRecursion, ClipLine, Configuration, File, FitsInputLine}
use Rattle.nit_run.specs.Below.{FitsLine, InputLine, IsRunConfiguration, Line, client_script}
use Rattle.nit_run.specs.Below.{client_text, clip_phases, config_text, generated_configuration}
use Rattle.nit_run.specs.Below.{idle_user, input_phases, most_lines, phases, range_with_len}
use Rattle.nit_run.specs.Below.{script_name, still_configuration, user_script, user_text}

-- a configuration, the clients' scripts in its order, and the input script
pub record RunFiles : Type 0 where
  pub config : Configuration
  pub scripts : List (List Line)
  pub input : List InputLine

-- The configuration, the clients' scripts in its order, and the input script. Texts: those of the
-- events and of the journal are put behind the pictures. Beside: the clients run beside each other,
-- each on a thread of its own; else all run by rounds, on one thread. Made: files that are put
-- before the run. Inner: what was run by turns before, where the first client's script shows that.
-- Clips: a clip script for each client, in order, or none at all.
pub record Setup : Type 0 where
  pub config : Configuration
  pub scripts : List (List Line)
  pub input : List InputLine
  pub texts : Bool
  pub beside : Bool
  pub made : List File
  pub inner : Option RunFiles
  pub clips : List (List ClipLine)

-- the setup of a picture of one client's script, by rounds and without texts
abbrev pub still_setup : ℕ → ℕ → List Line → Setup
still_setup width height lines = record {
  config = still_configuration width height;
  scripts = lines ∷ [];
  input = idle_user lines;
  texts = false;
  beside = false;
  made = [];
  inner = None;
  clips = [];
}

-- the scripts of the first so many clients of a generated run
abbrev pub script_files : ℕ → ℕ → List File
script_files n count = map (λ c. (script_name c, client_text n c)) (range_with_len 0 count)

-- the files of a generated run in the order in which they are put: its configuration, the scripts
-- of its eight clients, and the input script
abbrev pub generated_files : ℕ → List File
generated_files n =
    (codes "gen.toml", config_text) ∷ script_files n 8 ++ (codes "gen.in", user_text n) ∷ []

-- the setup of a generated run
abbrev pub generated_setup : ℕ → Setup
generated_setup n = record {
  config = generated_configuration;
  scripts = map (client_script n) (range_with_len 0 8);
  input = user_script n;
  texts = true;
  beside = true;
  made = generated_files n;
  inner = None;
  clips = [];
}

-- the setup of a run by turns, with texts
abbrev pub by_turns : RunFiles → Setup
by_turns i = record {
  config = i.config;
  scripts = i.scripts;
  input = i.input;
  texts = true;
  beside = false;
  made = [];
  inner = None;
  clips = [];
}

-- all scripts have as many phases as the first
abbrev pub HaveSamePhases : List (List Line) → Type 0
HaveSamePhases [] = Unit {0}
HaveSamePhases (first ∷ rest) = AllByRecursion (λ lines. phases lines ≡ phases first) rest

-- at most 65,536 lines, each within the grammar
abbrev pub AreLines : {L : Type 0} → (L → Type 0) → List L → Type 0
AreLines Fits lines = AllByRecursion Fits lines × (length lines ≤ most_lines)

-- there is no clip script; or there is one for each script, in order, and each has so many phases
abbrev pub AreClipsOf : List (List Line) → ℕ → List (List ClipLine) → Type 0
AreClipsOf scripts wanted clips = (clips ≡ [])
    ⊎ ((length clips ≡ length scripts) × AllByRecursion (λ lines. clip_phases lines ≡ wanted) clips)

-- The configuration is within its ranges, and there is a script for each client. All scripts have
-- as many phases as the input script, and each has at most 65,536 lines, all within the grammar.
-- Clip
-- scripts have as many phases too, and where there are some there is one for each client.
pub record IsRunnable (s : Setup) : Type 0 where
  pub configured : IsRunConfiguration s.config
  pub scripts : length s.scripts ≡ length s.config.clients
  pub phases : AllByRecursion (λ lines. phases lines ≡ input_phases s.input) s.scripts
  pub lines : AllByRecursion (AreLines FitsLine) s.scripts
  pub input_lines : AreLines FitsInputLine s.input
  pub clips_each : AreClipsOf s.scripts (input_phases s.input) s.clips

-- what a run is made of, as its files
abbrev pub run_files : Configuration → List (List Line) → List InputLine → RunFiles
run_files config scripts input = record { config = config; scripts = scripts; input = input }

-- ---- the run

-- the setup of a run, with texts or without, and with its clients beside each other or by rounds;
-- no file is made before it
abbrev pub setup_of : Configuration → List (List Line) → List InputLine → Bool → Bool → Setup
setup_of config scripts input texts beside =
    record {
      config = config;
      scripts = scripts;
      input = input;
      texts = texts;
      beside =
          beside;
      made = [];
      inner = None;
      clips = [];
    }
