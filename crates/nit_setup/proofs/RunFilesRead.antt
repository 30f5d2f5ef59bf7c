-- A configuration and its scripts, read for any command.
use Rattle.nit_setup.proofs.ScriptsRead.{both_of, both_told, get_behind, stopped_reading}
use Rattle.nit_setup.proofs.ScriptsRead.{take_front}
use Rattle.nit_setup.proofs.Basics.{AllByRecursion, AreAllOuterFiles, AreAllScripts, AreFirstFiles}
use Rattle.nit_setup.proofs.Basics.{AreLines, AreSetup, Audit, BothFiles, Capture, Clip, Command}
use Rattle.nit_setup.proofs.Basics.{ConfigRead, Configuration, Fault, File, FilesRead, FirstFiles}
use Rattle.nit_setup.proofs.Basics.{FitsLine, HasRead, HaveSamePhases, IfSome, IfSome_then}
use Rattle.nit_setup.proofs.Basics.{InnerFiles, IsClientFault, IsConfig, IsConfigFault}
use Rattle.nit_setup.proofs.Basics.{IsFirstFault, IsFirstOuterFault, IsInputFault, IsLoaded}
use Rattle.nit_setup.proofs.Basics.{IsOuterFault, IsOuterLoaded, IsOuterSetupFault}
use Rattle.nit_setup.proofs.Basics.{IsRunConfiguration, IsSetupFault, IsSetupOf, IsValid, Judged}
use Rattle.nit_setup.proofs.Basics.{Line, Loaded, MayShowFrames, Nested, NoFile, OuterFiles}
use Rattle.nit_setup.proofs.Basics.{OuterRunRead, ReadsTo, Refused, Region, Run, RunFiles, RunRead}
use Rattle.nit_setup.proofs.Basics.{Setup, SetupRead, SpellScripts, Stop, StopName, StoppedAt}
use Rattle.nit_setup.proofs.Basics.{StoppedReading, StoreModel, append-nil, asking_all, asking_both}
use Rattle.nit_setup.proofs.Basics.{asking_none, bytes_of, files_in, first_names, name_text}
use Rattle.nit_setup.proofs.Basics.{names_in, names_read, next_name, phases, reads, script_names}
use Rattle.nit_setup.proofs.Basics.{setup_in, slice_get, wanted_by, with_asked}
use Rattle.std.proofs.Common.{Bool, Err, List, None, Ok, Result, Some, [], ap, append_assoc, false}
use Rattle.std.proofs.Common.{inl, inr, length, refl, sym, true, ℕ, ◌++◌, ◌∙◌, ◌∷◌, ◌≡◌}
use Rattle.nit_setup.specs.declared.stop.StopName.TheVariants as file_name

-- A command reads the configuration of this name behind these files, and then its scripts, which are to stand rightly
-- beside each other. What is refused of these is refused of the command.
pub record ReadsRun (Right : List (List Line) → Type 0) (Refuses : List ℕ → List File → List ℕ → Fault → Type 0)
    (c : Command) (old : StoreModel) (name : List ℕ) (front : List (List ℕ)) : Type 0 where
  pub start : FilesRead
  pub start_read : HasRead c old.files start
  pub start_names : front ≡ names_read c start
  pub start_next : next_name c start ≡ Some name
  pub further : Configuration → List (List Line) → FilesRead
  pub further_read : (config : Configuration) (scripts : List (List Line)) → IsRunConfiguration config
      → AllByRecursion (AreLines FitsLine) scripts → Right scripts
      → IfSome old.files (λ files. IsConfig (bytes_of name files) config
      × (SpellScripts files (first_names config scripts) scripts × Right scripts))
      → HasRead c old.files (further config scripts)
  pub further_names : (config : Configuration) (scripts : List (List Line))
      → front ++ name ∷ first_names config scripts ≡ names_read c (further config scripts)
  pub further_next : (config : Configuration) (scripts : List (List Line))
      → next_name c (further config scripts) ≡ slice_get (names_in config) (length scripts)
  pub refused : (n : List ℕ) (f : Fault) → IfSome old.files (λ files. Refuses name files n f)
      → IfSome old.files (λ files. Judged c files (Refused n f))

-- ---- where reading stops

module _ {Right : List (List Line) → Type 0} {Refuses : List ℕ → List File → List ℕ → Fault → Type 0} (c : Command)
    (old : StoreModel) (name : List ℕ) (front : List (List ℕ)) (r : ReadsRun Right Refuses c old name front)
    (new : StoreModel) (stop : Stop) where
  -- the configuration was not read, or is refused
  pub config_stopped : ((files : List File) (f : Fault) → IsConfigFault (bytes_of name files) f
      → Refuses name files name f) → name_text c stop.name ≡ name
      → StoppedAt IsConfigFault (asking_all old front) name new stop.end → StoppedReading c old new stop
  config_stopped refuses is h =
      stopped_reading c old r.start r.start_read name r.start_next IsConfigFault new
      (λ f p. r.refused name f (IfSome_then old.files p (λ files q. refuses files f q))) (asking_all old front)
      stop (ap (asking_all old) r.start_names) is h

  -- a file behind some scripts of the configuration was not read, or is refused
  pub stopped_behind : (config : Configuration) (mid : StoreModel) → ConfigRead name (asking_all old front) config mid
      → (before rest : List (List ℕ)) (n : List ℕ) (behind : List (List ℕ)) (scripts : List (List Line))
      → script_names config ≡ before ++ rest → rest ++ config.input ∷ [] ≡ n ∷ behind
      → length scripts ≡ length before → AllByRecursion (AreLines FitsLine) scripts → Right scripts
      → IfSome mid.files (λ files. SpellScripts files before scripts) → (Faulty : List ℕ → Fault → Type 0)
      → ((files : List File) (f : Fault) → IsConfig (bytes_of name files) config
      → SpellScripts files before scripts × Right scripts → Faulty (bytes_of n files) f → Refuses name files n f)
      → (now : StoreModel) → now ≡ asking_all mid before → name_text c stop.name ≡ n
      → StoppedAt Faulty now n new stop.end → StoppedReading c old new stop
  stopped_behind config mid is before rest n behind scripts parts next count lines right spelled Faulty refuses now
      asked named h =
      let told = rw is.asked at spelled in
      let names : first_names config scripts ≡ before = rw parts (take_front before rest scripts count) in
      let here : now ≡ asking_all old (front ++ name ∷ before) = rw (asked, is.asked)
      (asking_both (asking_all old front) (name ∷ []) before ∙ asking_both old front (name ∷ before)) in
      stopped_reading c old (r.further config scripts)
      (r.further_read config scripts is.configured lines right
      (rw names (both_told old.files is.valid told (λ files v w. (v, (w, right)))))) n
      (r.further_next config scripts
      ∙ rw (parts, append_assoc before rest (config.input ∷ []), next) (get_behind before n behind scripts count))
      Faulty new
      (λ f p. r.refused n f (both_told old.files (both_of old.files _ _ is.valid told) p
      (λ files v q. refuses files f v.0 (v.1, right) q)))
      now stop (here ∙ ap (asking_all old) (rw names at (r.further_names config scripts))) named h

-- ---- where all was read

-- all names were asked for
whole_asked : (old : StoreModel) (front : List (List ℕ)) (name : List ℕ) (config : Configuration)
    {start mid between now : StoreModel} → start ≡ asking_all old front → mid ≡ with_asked start name
    → between ≡ asking_all mid (script_names config) → now ≡ with_asked between config.input
    → now ≡ asking_all old (front ++ name ∷ names_in config)
whole_asked old front name config at_start at_config at_scripts at_input =
    rw (at_input, at_scripts, at_config, at_start)
    (asking_both (with_asked (asking_all old front) name) (script_names config) (config.input ∷ [])
    ∙ asking_both (asking_all old front) (name ∷ []) (names_in config)
    ∙ asking_both old front (name ∷ names_in config))

-- ---- a configuration whose clients are beside each other

abbrev ReadsOne : Command → StoreModel → List ℕ → List (List ℕ) → Type 0
ReadsOne = ReadsRun HaveSamePhases IsSetupFault

-- the configuration or one of its scripts was not read, or is refused
run_stopped : {c : Command} {old new : StoreModel} {name : List ℕ} {front : List (List ℕ)} {stop : Stop}
    → ReadsOne c old name front → (said : StopName) → name_text c said ≡ name
    → IsLoaded name said (asking_all old front) new (Err stop) → StoppedReading c old new stop
run_stopped {c = c} r said is (inl (at, h)) =
    config_stopped c _ _ _ r _ _ (λ files f q. inl (refl, q)) (ap (name_text c) at ∙ is) h
run_stopped {c = c} r said is (inr (config, mid, read, inl a)) =
    stopped_behind c _ _ _ r _ _ config mid read a.before _ a.name _ a.scripts a.parts refl a.count a.lines a.phases
    (IfSome_then mid.files a.valid (λ files v. v.0)) (IsClientFault (wanted_by a.scripts))
    (λ files f v w q.
    let first : IsFirstFault files (script_names config) a.name f =
    record { before = a.before; behind = a.behind; parts = a.parts; scripts = a.scripts; valid = w; fault = q } in
    inr (config, v, inl first))
    (asking_all mid a.before) refl (a.named c) a.stopped
run_stopped {c = c} r said is (inr (config, mid, read, inr s)) =
    let far = s.clients in
    stopped_behind c _ _ _ r _ _ config mid read (script_names config) [] config.input [] s.scripts
    (sym (append-nil (script_names config))) refl far.count far.lines far.phases far.valid
    (IsInputFault (wanted_by s.scripts))
    (λ files f v w q. inr (config, v, inr (record { scripts = s.scripts; valid = w; name_is = refl; fault = q })))
    s.between far.asked (s.named c) s.stopped

module _ (old : StoreModel) (front : List (List ℕ)) {mid new : StoreModel} {name : List ℕ} {l : Loaded}
    (asked : mid ≡ asking_all old front) (h : RunRead name mid l new) where
  pub run_asked : new ≡ asking_all old (front ++ name ∷ names_in l.config)
  run_asked = whole_asked old front name l.config asked h.config.asked h.scripts.clients.asked h.scripts.asked

  pub run_valid : (beside : Bool) → AreAllScripts name old.files (setup_in l beside)
  run_valid beside = let far = h.scripts.clients in record {
    runnable = h.runnable beside;
    valid = both_told old.files
        (both_of old.files _ _ (rw asked at h.config.valid) (rw (h.config.asked, asked) at far.valid))
        (rw (far.asked, h.config.asked, asked) at h.scripts.valid)
        (λ files v q. (v.0, record { scripts = (v.1, far.phases); input = q }));
  }

-- ---- a command that reads nothing before

pub reads_first : (c : Command) (old : StoreModel) (name : List ℕ) → next_name c NoFile ≡ Some name
    → ((config : Configuration) (scripts : List (List Line)) → AreFirstFiles name old.files config scripts
    → HasRead c old.files (FirstFiles config scripts))
    → ((config : Configuration) (scripts : List (List Line)) → name ∷ first_names config scripts
    ≡ names_read c (FirstFiles config scripts))
    → ((config : Configuration) (scripts : List (List Line)) → next_name c (FirstFiles config scripts)
    ≡ slice_get (names_in config) (length scripts))
    → ((n : List ℕ) (f : Fault) → IfSome old.files (λ files. IsSetupFault name files n f)
    → IfSome old.files (λ files. Judged c files (Refused n f))) → ReadsOne c old name []
reads_first c old name first read names next refused = record {
  start = NoFile;
  start_read = tt;
  start_names = refl;
  start_next = first;
  further = FirstFiles;
  further_read = λ config scripts configured lines phases valid. read config scripts
      (record { configured = configured; lines = lines; phases = phases; valid = valid });
  further_names = names;
  further_next = next;
  refused = refused;
}

pub reads_clips : (old : StoreModel) (name : List ℕ) → ReadsOne (Clip name) old name []
reads_clips old name = reads_first (Clip name) old name refl (λ config scripts h. h) (λ config scripts. refl)
    (λ config scripts. refl) (λ n f p. IfSome_then old.files p (λ files q. inl q))

pub reads_audit : (old : StoreModel) (name journal : List ℕ) → ReadsOne (Audit name journal) old name []
reads_audit old name journal = reads_first (Audit name journal) old name refl (λ config scripts h. h)
    (λ config scripts. refl) (λ config scripts. refl) (λ n f p. IfSome_then old.files p (λ files q. inl q))

pub stopped_first : {c : Command} {old new : StoreModel} {name : List ℕ} {stop : Stop} → ReadsOne c old name []
    → name_text c file_name.First ≡ name → IsLoaded name file_name.First old new (Err stop)
    → StoppedReading c old new stop
stopped_first {old = old} r is h = run_stopped r file_name.First is (rw (asking_none old) at h)

-- all files of a command were read that reads no others
first_read : (c : Command) (old : StoreModel) (name : List ℕ) (beside : Bool) → ReadsOne c old name []
    → name_text c file_name.First ≡ name → ((s : Setup) → name ∷ names_in s.config ≡ reads c s)
    → ((l : Loaded) → IsSetupOf c (setup_in l beside))
    → ((l : Loaded) (files : List File) → AreSetup name files (setup_in l beside)
    → IsValid c files (setup_in l beside))
    → (new : StoreModel) (r : Result Loaded Stop) → IsLoaded name file_name.First old new r
    → SetupRead c beside old new r
first_read c old name beside reads_one is names of_command valid new (Ok l) h =
    let all = run_valid old [] (asking_none old) h beside in
    record {
      asked = run_asked old [] (asking_none old) h ∙ ap (asking_all old) (names (setup_in l beside));
      valid = assumption (of_command l, IfSome_then old.files all.valid (valid l), all);
    }
first_read c old name beside reads_one is names of_command valid new (Err stop) h = stopped_first reads_one is h

pub run_read : (old : StoreModel) (name : List ℕ) (beside : Bool) (new : StoreModel) (r : Result Loaded Stop)
    → IsLoaded name file_name.First old new r → SetupRead (Run beside name) beside old new r
run_read old name beside = first_read (Run beside name) old name beside
    (reads_first (Run beside name) old name refl (λ config scripts h. h) (λ config scripts. refl)
    (λ config scripts. refl) (λ n f p. p)) refl (λ s. refl) (λ l. (refl, refl, refl, refl))
    (λ l files v. (v.0, v.1, refl, refl, refl, refl))

pub film_read : (old : StoreModel) (name : List ℕ) (region : Region) (new : StoreModel) (r : Result Loaded Stop)
    → IsLoaded name file_name.First old new r → SetupRead (Capture name region) true old new r
film_read old name region = first_read (Capture name region) old name true
    (reads_first (Capture name region) old name refl (λ config scripts h. h) (λ config scripts. refl)
    (λ config scripts. refl) (λ n f p. p)) refl (λ s. refl) (λ l. (refl, refl, refl, refl))
    (λ l files v. (v.0, v.1, refl, refl, refl, refl))

-- ---- the inner files, behind the outer ones

module _ (outer inner : List ℕ) (old : StoreModel) (o : RunFiles) (all : AreAllOuterFiles outer old.files o)
    (mid new : StoreModel) (asked : mid ≡ asking_all old (outer ∷ names_in o.config)) where
  reads_inner : ReadsOne (Nested outer inner) old inner (outer ∷ names_in o.config)
  reads_inner = record {
    start = OuterFiles o;
    start_read = all;
    start_names = refl;
    start_next = refl;
    further = InnerFiles o;
    further_read = λ config scripts configured lines phases valid.
        (all, record { configured = configured; lines = lines; phases = phases; valid = valid });
    further_names = λ config scripts. refl;
    further_next = λ config scripts. refl;
    refused = λ n f p. both_told old.files all.valid p (λ files v q. inr (o, v, inl q));
  }

  -- the inner files were read, or it stopped at one of them
  pub inner_stopped : (stop : Stop) → IsLoaded inner file_name.Second mid new (Err stop)
      → StoppedReading (Nested outer inner) old new stop
  inner_stopped stop h = run_stopped reads_inner file_name.Second refl (rw asked at h)

  pub inner_whole : (i : Loaded) → RunRead inner mid i new
      → ReadsTo (Nested outer inner) old (BothFiles o (files_in i)) new
  inner_whole i h = record {
    asked = run_asked old (outer ∷ names_in o.config) asked h;
    valid = (all, run_valid old (outer ∷ names_in o.config) asked h false);
  }

-- ---- the outer files of two configurations, read one after the other

reads_outer : (outer inner : List ℕ) (old : StoreModel)
    → ReadsRun MayShowFrames IsOuterSetupFault (Nested outer inner) old outer []
reads_outer outer inner old = record {
  start = NoFile;
  start_read = tt;
  start_names = refl;
  start_next = refl;
  further = FirstFiles;
  further_read = λ config scripts configured lines may valid.
      record { configured = configured; lines = lines; may = may; valid = valid };
  further_names = λ config scripts. refl;
  further_next = λ config scripts. refl;
  refused = λ n f p. IfSome_then old.files p (λ files q. inl q);
}

module _ (outer inner : List ℕ) (old new : StoreModel) (stop : Stop) where
  abbrev nest : Command
  nest = Nested outer inner

  -- the outer configuration or one of its scripts was not read, or is refused
  pub outer_stopped : IsOuterLoaded outer old new (Err stop) → StoppedReading nest old new stop
  outer_stopped (inl (at, h)) =
      config_stopped nest old outer [] (reads_outer outer inner old) new stop (λ files f q. inl (refl, q))
      (ap (name_text nest) at) (rw (asking_none old) at h)
  outer_stopped (inr (config, mid, read, inl a)) =
      stopped_behind nest old outer [] (reads_outer outer inner old) new stop config mid
      (rw (asking_none old) at read) a.before _ a.name _ a.scripts a.parts refl a.count a.lines a.may
      (IfSome_then mid.files a.valid (λ files v. v.0)) (IsOuterFault a.scripts)
      (λ files f v w q.
      let first : IsFirstOuterFault files (script_names config) a.name f =
      record { before = a.before; behind = a.behind; parts = a.parts; scripts = a.scripts; valid = w; fault = q } in
      inr (config, v, inl first))
      (asking_all mid a.before) refl (a.named nest) a.stopped
  outer_stopped (inr (config, mid, read, inr s)) =
      let far = s.clients in
      stopped_behind nest old outer [] (reads_outer outer inner old) new stop config mid
      (rw (asking_none old) at read) (script_names config) [] config.input [] s.scripts
      (sym (append-nil (script_names config))) refl far.count far.lines far.may far.valid
      (IsInputFault None)
      (λ files f v w q. inr (config, v, inr (record { scripts = s.scripts; valid = w; name_is = refl; fault = q })))
      s.between far.asked (s.named nest) s.stopped

-- what was read, where all outer files are valid
pub outer_whole : {outer : List ℕ} {old new : StoreModel} {l : Loaded} → OuterRunRead outer old l new
    → (new ≡ asking_all old (outer ∷ names_in l.config)) × AreAllOuterFiles outer old.files (files_in l)
outer_whole {outer = outer} {old = old} {l = l} h = let far = h.scripts.clients in (
  whole_asked old [] outer l.config (asking_none old) h.config.asked far.asked h.scripts.asked,
  record {
    is_outer = h.is_outer;
    valid = both_told old.files
        (both_of old.files _ _ h.config.valid (rw h.config.asked at far.valid))
        (rw (far.asked, h.config.asked) at h.scripts.valid)
        (λ files v q. record { config = v.0; scripts = (v.1, far.may); input = q });
  },
)
