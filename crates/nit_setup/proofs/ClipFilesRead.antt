-- What is read behind the scripts of a configuration: clip scripts, or a journal; and the one script of a picture.
use Rattle.std.proofs.Common.{Bool, List, None, Option, [], ap, arith, cond, inl, inr, length}
use Rattle.std.proofs.Common.{length-append, map, refl, replicate, suc, sym, take, true, zero, ℕ}
use Rattle.std.proofs.Common.{◌*◌, ◌++◌, ◌+◌, ◌∙◌, ◌∷◌, ◌≡◌, ◌≤◌}
use Rattle.nit_setup.proofs.Basics.{AllByRecursion, AllFiles, AllScripts, AreAllScripts}
use Rattle.nit_setup.proofs.Basics.{AreClipScripts, AreClipsOf, AreClipsRead, AreFirstClips}
use Rattle.nit_setup.proofs.Basics.{AreLines, AreSetup, Audit, Clip, ClipLine, Command}
use Rattle.nit_setup.proofs.Basics.{Configuration, End, Fault, FitsInputLine, FitsLine}
use Rattle.nit_setup.proofs.Basics.{HaveSamePhases, IfSome, IfSome_then, InputLine, IsClientFault}
use Rattle.nit_setup.proofs.Basics.{IsClientScript, IsClipFault, IsJournalFault, IsNoJournalText}
use Rattle.nit_setup.proofs.Basics.{IsRunConfiguration, IsRunnable, Line, NoFile, ReadsTo, Setup}
use Rattle.nit_setup.proofs.Basics.{Still, Stop, StoppedAt, StoppedAtClip, StoppedReading}
use Rattle.nit_setup.proofs.Basics.{StoreModel, asking_all, asking_both, asking_none, bytes_of}
use Rattle.nit_setup.proofs.Basics.{clip_name, clip_names, clip_phases, count_by}
use Rattle.nit_setup.proofs.Basics.{count_by-le-length, idle_user, input_phases, is_input_phase}
use Rattle.nit_setup.proofs.Basics.{is_phase, length-map, length-replicate, map-append, name_text}
use Rattle.nit_setup.proofs.Basics.{names_in, phases, script_names, setup_of, still_configured}
use Rattle.nit_setup.proofs.Basics.{still_setup, sum_by-replicate, wanted_by, with_asked}
use Rattle.nit_setup.proofs.Basics.{wrong_clip, wrong_input, wrong_phases}
use Rattle.nit_setup.proofs.ScriptsRead.{both_told, get_behind, phases_are, stopped_reading}
use Rattle.nit_setup.proofs.ScriptsRead.{take_front}
use Rattle.nit_script.specs.declared.line.InputLine.TheVariants as input
use Rattle.nit_setup.specs.declared.stop.Fault.TheVariants as fault
use Rattle.nit_setup.specs.declared.stop.StopName.TheVariants as file_name

-- ---- a setup whose files were read can be run

pub all_so : {A : Type 0} (P Q : A → Type 0) (xs : List A) → ((x : A) → P x → Q x) → AllByRecursion P xs
    → AllByRecursion Q xs
all_so P Q [] f all = tt
all_so P Q (x ∷ xs) f all = (f x all.0, all_so P Q xs f all.1)

-- each script has as many phases as the input script, where that has as many as the first
all_phases : (scripts : List (List Line)) (lines : List InputLine) → 1 ≤ length scripts → HaveSamePhases scripts
    → wrong_phases (wanted_by scripts) (input_phases lines) ≡ None
    → AllByRecursion (λ ls. phases ls ≡ input_phases lines) scripts
all_phases [] lines some same right = absurd (omega arith)
all_phases (first ∷ rest) lines some same right =
    let is = sym (phases_are (phases first) (input_phases lines) right) in
    (is, all_so _ (λ ls. phases ls ≡ input_phases lines) rest (λ ls e. e ∙ is) same)

-- the setup of a configuration
pub run_runnable : (beside : Bool) (config : Configuration) (scripts : List (List Line)) (lines : List InputLine)
    → IsRunConfiguration config → length scripts ≡ length (script_names config)
    → AllByRecursion (AreLines FitsLine) scripts → HaveSamePhases scripts
    → AreLines FitsInputLine lines → wrong_input (wanted_by scripts) lines ≡ None
    → IsRunnable (setup_of config scripts lines true beside)
run_runnable beside config scripts lines configured counted fit same input_fits right =
    let count = rw length-map at counted in
    record {
      configured = configured;
      scripts = count;
      phases = all_phases scripts lines (omega (arith, configured.count.0)) same right;
      lines = fit;
      input_lines = input_fits;
      clips_each = inl refl;
    }

-- where nothing is wrong with clip scripts, they have as many phases as the scripts
clips_right : (scripts : List (List Line)) (wanted : ℕ) (clips : List (List ClipLine)) → 1 ≤ length scripts
    → AllByRecursion (λ ls. phases ls ≡ wanted) scripts
    → AllByRecursion (λ ls. wrong_clip (wanted_by scripts) ls ≡ None) clips
    → AllByRecursion (λ ls. clip_phases ls ≡ wanted) clips
clips_right [] wanted clips some all right = absurd (omega arith)
clips_right (first ∷ rest) wanted clips some all right =
    all_so _ (λ ls. clip_phases ls ≡ wanted) clips (λ ls e. phases_are (phases first) (clip_phases ls) e ∙ all.0) right

module _ (name : List ℕ) (config : Configuration) (scripts : List (List Line)) (lines : List InputLine)
    (old mid : StoreModel) (asked : mid ≡ asking_all old (name ∷ names_in config))
    (all : AreAllScripts name old.files (setup_of config scripts lines true true)) where
  abbrev clip : Command
  clip = Clip name

  abbrev wanted : Option ℕ
  wanted = wanted_by scripts

  -- the setup with these clip scripts
  abbrev with_clips : List (List ClipLine) → Setup
  with_clips clips = record (setup_of config scripts lines true true) { clips = clips }

  names_long : length (script_names config) ≡ length scripts
  names_long = length-map config.clients (λ m. m.script) ∙ sym all.runnable.scripts

  phases_right : (clips : List (List ClipLine)) → AllByRecursion (λ ls. wrong_clip wanted ls ≡ None) clips
      → AllByRecursion (λ ls. clip_phases ls ≡ input_phases lines) clips
  phases_right clips right =
      let r = all.runnable in
      clips_right scripts (input_phases lines) clips (omega (arith, r.configured.count.0, r.scripts)) r.phases right

  -- the files are the setup with these clip scripts, where they are so at first
  setup_with : (names : List (List ℕ)) (clips : List (List ClipLine))
      → IfSome mid.files (λ files. AreClipScripts files wanted names clips)
      → IfSome old.files (λ files. AreSetup name files (with_clips clips) × AreClipScripts files wanted names clips)
  setup_with names clips told = both_told old.files all.valid (rw asked at told)
      (λ files v q. ((v.0, record { scripts = v.1.scripts; input = v.1.input }), q))

  -- the names of clip scripts behind those that were read before
  names_behind : (names : List (List ℕ)) (now : StoreModel) → now ≡ asking_all mid names
      → now ≡ asking_all old ((name ∷ names_in config) ++ names)
  names_behind names now e = rw (e, asked) (asking_both old (name ∷ names_in config) names)

  pub clip_stopped : (new : StoreModel) (stop : Stop) → StoppedAtClip wanted mid (script_names config) new stop
      → StoppedReading clip old new stop
  clip_stopped new stop a =
      let before : List (List ℕ) = map clip_name a.before in
      let behind : List (List ℕ) = map clip_name a.behind in
      let n : List ℕ = clip_name a.script in
      let parts : clip_names config ≡ before ++ n ∷ behind =
      rw a.parts (map-append clip_name a.before (a.script ∷ a.behind)) in
      let count : length a.clips ≡ length before = rw length-map a.read.count in
      let names : take (length a.clips) (clip_names config) ≡ before =
      rw parts (take_front before (n ∷ behind) a.clips count) in
      let told = setup_with before a.clips a.read.valid in
      let s = with_clips a.clips in
      let first : AreFirstClips name old.files s = record {
        scripts = all;
        few = omega (arith, a.read.count, names_long, ap length a.parts, length-append a.before (a.script ∷ a.behind));
        phases = phases_right a.clips a.read.right;
        valid_clips = rw names (IfSome_then old.files told (λ files v. v.1));
      } in
      stopped_reading clip old (AllScripts s) first n (rw parts (get_behind before n behind a.clips count))
      (IsClipFault wanted) new
      (λ f p. both_told old.files told p (λ files v q. inr (
        s,
        v.0,
        record { before = before; behind = behind; parts = parts; clips = a.clips; valid = v.1; fault = q },
      )))
      a.between stop (rw names (names_behind before a.between a.read.asked)) (a.named clip) a.stopped

  -- all clip scripts were read
  pub clips_read : (clips : List (List ClipLine)) (now : StoreModel)
      → AreClipsRead wanted mid (script_names config) clips now → ReadsTo clip old (AllFiles (with_clips clips)) now
  clips_read clips now read =
      let count = read.count ∙ names_long in
      let each : AreClipsOf scripts (input_phases lines) clips = inr (count, phases_right clips read.right) in
      record {
        asked = names_behind (clip_names config) now read.asked;
        valid = record {
          runnable = assumption (each, all.runnable);
          of_command = (refl, refl, refl, count);
          valid = IfSome_then old.files (setup_with (clip_names config) clips read.valid)
              (λ files v. (v.0, refl, refl, refl, v.1));
        };
      }

-- ---- a journal, read behind the scripts of a configuration

module _ (name journal : List ℕ) (old mid : StoreModel) (s : Setup)
    (asked : mid ≡ asking_all old (name ∷ names_in s.config)) (all : AreAllScripts name old.files s) where
  abbrev audit : Command
  audit = Audit name journal

  -- the journal has a fault, or was not read
  pub journal_stopped : (Faulty : List ℕ → Fault → Type 0)
      → ((bytes : List ℕ) (f : Fault) → Faulty bytes f → IsJournalFault s bytes f)
      → (new : StoreModel) (stop : Stop)
      → name_text audit stop.name ≡ journal → StoppedAt Faulty mid journal new stop.end
      → StoppedReading audit old new stop
  journal_stopped Faulty faulty new stop is h =
      stopped_reading audit old (AllScripts s) all journal refl Faulty new
      (λ f p. both_told old.files all.valid p
      (λ files a q. inr (refl, (s, a, faulty (bytes_of journal files) f q)))) mid stop asked is h

-- a fault of the text is one of the journal
pub text_fault : (s : Setup) (bytes : List ℕ) (f : Fault) → IsNoJournalText bytes f → IsJournalFault s bytes f
text_fault s bytes (fault.BadEntry n) r = r
text_fault s bytes fault.LongJournal r = r
text_fault s bytes other r = absurd r

-- The script of a picture, and the user who does nothing.

-- ---- a user who does nothing

idle_fits : (n : ℕ) → AllByRecursion FitsInputLine (replicate n input.Phase)
idle_fits zero = tt
idle_fits (suc n) = (tt, idle_fits n)

pub still_runnable : (width height : ℕ) (lines : List Line) → 1 ≤ width → width ≤ 1024 → 1 ≤ height → height ≤ 768
    → AreLines FitsLine lines → IsRunnable (still_setup width height lines)
still_runnable width height lines some few tall short fits = record {
  configured = still_configured width height some few tall short;
  scripts = refl;
  phases = (ap (λ (n : ℕ). n + 1) (sym (count_all (count_by is_phase lines))), tt);
  lines = (fits, tt);
  input_lines = (idle_fits (count_by is_phase lines), omega (arith, long, count_by-le-length is_phase lines, fits.1));
  clips_each = inl refl;
}
  where
    long : length (idle_user lines) ≡ count_by is_phase lines
    long = length-replicate (count_by is_phase lines) input.Phase

    count_all : (n : ℕ) → count_by is_input_phase (replicate n input.Phase) ≡ n
    count_all n = let one : n * 1 ≡ n = omega arith in
        sum_by-replicate (λ x. cond (is_input_phase x) 1 0) n input.Phase ∙ one

-- ---- the script

module _ {width height : ℕ} {script : List ℕ} {old new : StoreModel} where
  pub picture_stopped : {stop : Stop} {end : End} → (stop.end ≡ end) × (stop.name ≡ file_name.First)
      → StoppedAt (IsClientFault None) old script new end → StoppedReading (Still width height script) old new stop
  picture_stopped {stop = stop} is h =
      stopped_reading (Still width height script) old NoFile tt script refl (IsClientFault None) new
      (λ f p. IfSome_then old.files p (λ files q. (refl, q)))
      old stop (asking_none old) (ap (name_text (Still width height script)) is.1) (rw is.0 h)

  pub picture_read : {lines : List Line} → new ≡ with_asked old script
      → IfSome old.files (λ files. IsClientScript None (bytes_of script files) lines)
      → IsRunnable (still_setup width height lines)
      → ReadsTo (Still width height script) old (AllFiles (still_setup width height lines)) new
  picture_read {lines = lines} asked valid runnable = record {
    asked = asked;
    valid = record {
      runnable = runnable;
      of_command = (lines, refl);
      valid = IfSome_then old.files valid (λ files q. (lines, q, refl));
    };
  }
