-- The run whose first client shows what another run has shown: its setup, what it leaves, its frames, a client in both.
use Rattle.nit_top.proofs.Basics.{ActorLine, AllByRecursion, AreLines, AreOutputs, AreTexts}
use Rattle.nit_top.proofs.Basics.{ByClient, ByUser, Configuration, Contains, Drawing, DrawnLaw}
use Rattle.nit_top.proofs.Basics.{Entry, Event, File, FirstShows, FitsLine, FrontsLaw, HasRun}
use Rattle.nit_top.proofs.Basics.{HaveSameEvents, Headline, IfSome, InputLine, IsAfterNested}
use Rattle.nit_top.proofs.Basics.{IsJournal, IsLegal, IsOuter, IsRunnable, IsSameClient, Line}
use Rattle.nit_top.proofs.Basics.{LineTurn, NestModel, PutFault, PutsNext, Ran, Reply, RunFiles}
use Rattle.nit_top.proofs.Basics.{Session, Setup, ShotFrame, ShowsNest, State, StoreModel, UserOnce}
use Rattle.nit_top.proofs.Basics.{Worked, after, after_turn, all_append, all_so, all_wanted}
use Rattle.nit_top.proofs.Basics.{alone_machine, by_length, by_turns, count_by, donation_of}
use Rattle.nit_top.proofs.Basics.{drawn_shot, end_of_run, ending_of, ending_text, event_spelling}
use Rattle.nit_top.proofs.Basics.{events_among, events_file, events_name, events_taken}
use Rattle.nit_top.proofs.Basics.{final_picture, first_other, first_state, flat_map, frame_of}
use Rattle.nit_top.proofs.Basics.{frames_counted, frames_of, inner_journal_name, input_phases}
use Rattle.nit_top.proofs.Basics.{is_shot_line, is_too_long, journal_text, last_frame, length-map}
use Rattle.nit_top.proofs.Basics.{map-append, member, misfit, names_in, nest_of, nest_script}
use Rattle.nit_top.proofs.Basics.{nested_setup, one_wanted, opening_drawing, phase_counts, phases}
use Rattle.nit_top.proofs.Basics.{picture, picture_of, pictures_in, projection, put_state_of_run}
use Rattle.nit_top.proofs.Basics.{puts_more, raw_word, replay, replies_to, rounds, script_names}
use Rattle.nit_top.proofs.Basics.{session, setup_of, shot_file, shot_frames_of, shots_after}
use Rattle.nit_top.proofs.Basics.{spelled, tables_left, taken, texts, too_long_for, unless_other}
use Rattle.nit_top.proofs.Basics.{unrefused}
use Rattle.std.proofs.Common.{List, None, Option, Some, [], ap, ap₂, arith, false, fold, get_or}
use Rattle.std.proofs.Common.{inl, length, map, refl, sym, true, ℕ, ◌++◌, ◌+◌, ◌<◌, ◌∙◌, ◌∷◌, ◌≡◌}
use Rattle.std.proofs.Common.{◌≤◌}
use Rattle.nit_rounds.specs.Drawing.{drawn}
use Rattle.nit_events.specs.declared.entry.Entry.TheVariants as entry
use Rattle.nit_script.specs.declared.line.InputLine.TheVariants as input
use Rattle.nit_setup.specs.declared.stop.StopName.TheVariants as file_name

-- ---- the setup of the outer run

-- a list begins with its item of number 0
pub begins_with : {A : Type 0} (xs : List A) (x : A) → 0 < length xs → x ≡ get_or xs 0 x → (rest : List A)
    × (xs ≡ x ∷ rest)
begins_with [] x some is = absurd (omega (arith, some))
begins_with (y ∷ ys) x some is = (ys, ap (λ z. z ∷ ys) (sym is))

-- there is a first script
pub begun_first : (o : RunFiles) → IsOuter o → (own : List Line) × (rest : List (List Line)) × (o.scripts ≡ own ∷ rest)
begun_first o is_outer = by_scripts o.scripts (omega (arith, is_outer.configured.count.0, is_outer.count))
  where
    by_scripts : (scripts : List (List Line)) → 1 ≤ length scripts → (own : List Line) × (rest : List (List Line))
        × (scripts ≡ own ∷ rest)
    by_scripts [] some = absurd (omega (arith, some))
    by_scripts (own ∷ rest) some = (own, rest, refl)

-- where no file is to blame, none has another number of phases
pub fits_first : (inner : List ℕ) (o i : RunFiles) → misfit inner o i ≡ None
    → first_other (length (frames_of i)) (names_in o.config) (phase_counts o) ≡ None
fits_first inner o i fits = by_other (first_other (length (frames_of i)) (names_in o.config) (phase_counts o)) fits
  where
    by_other : (other : Option (List ℕ))
        → unless_other other (too_long_for inner (is_too_long (nest_of i) o.scripts)) ≡ None
        → other ≡ None
    by_other None e = refl
    by_other (Some name) e = absurd cc

-- the first script has as many phases as there are frames
pub first_counts : (o i : RunFiles) (own : List Line) (rest : List (List Line)) → o.scripts ≡ own ∷ rest → IsOuter o
    → first_other (length (frames_of i)) (names_in o.config) (phase_counts o) ≡ None → phases own ≡ length (frames_of i)
first_counts o i own rest parts is_outer none =
    let wanted : ℕ = length (frames_of i) in
    let counts = all_wanted wanted (script_names o.config) o.scripts (o.config.input ∷ []) (input_phases o.input ∷ [])
    (length-map o.config.clients (λ m. m.script) ∙ sym is_outer.count) none in
    (rw parts at counts.0).0

abbrev pub PhasesStay : Type 0
PhasesStay = (n : NestModel) (own : List Line) → phases (nest_script n own) ≡ phases own

pub nested_runnable : PhasesStay → (o i : RunFiles) (own : List Line) (rest : List (List Line)) → o.scripts ≡ own ∷ rest
    → IsOuter o → first_other (length (frames_of i)) (names_in o.config) (phase_counts o) ≡ None
    → AreLines FitsLine (nest_script (nest_of i) own)
    → IsRunnable (setup_of o.config (nest_script (nest_of i) own ∷ rest) o.input true true)
nested_runnable stay o i own rest parts is_outer none fits =
    let wanted : ℕ = length (frames_of i) in
    let counts : AllByRecursion (λ (ls : List Line). phases ls ≡ wanted) o.scripts
    × (first_other wanted (o.config.input ∷ []) (input_phases o.input ∷ []) ≡ None) =
    all_wanted wanted (script_names o.config) o.scripts (o.config.input ∷ []) (input_phases o.input ∷ [])
    (length-map o.config.clients (λ m. m.script) ∙ sym is_outer.count) none in
    let input_is = sym (one_wanted wanted o.config.input (input_phases o.input) counts.1) in
    let each = rw parts at counts.0 in
    let lines = rw parts at is_outer.lines in
    record {
      configured = is_outer.configured;
      scripts = rw parts at is_outer.count;
      phases = (
        stay (nest_of i) own ∙ each.0 ∙ input_is,
        all_so (λ ls. phases ls ≡ wanted) (λ ls. phases ls ≡ input_phases o.input) rest (λ ls e. e ∙ input_is) each.1,
      );
      lines = (fits, lines.1);
      input_lines = is_outer.input_lines;
      clips_each = inl refl;
    }

-- ---- both configurations are read, and no outer script has another number of phases than there are frames

-- the outer scripts have as many phases as there are frames, and this one is their first
pub record Fitting (o i : RunFiles) (own : List Line) : Type 0 where
  pub is_outer : IsOuter o
  pub rest : List (List Line)
  pub parts : o.scripts ≡ own ∷ rest
  pub none : first_other (length (frames_of i)) (names_in o.config) (phase_counts o) ≡ None

pub fitting : UserOnce → {o : RunFiles} (i : RunFiles) {own : List Line} {count : ℕ} → IsOuter o
    → own ≡ get_or o.scripts 0 own → count ≡ count_by is_shot_line i.input + 1
    → first_other count (names_in o.config) (phase_counts o) ≡ None → Fitting o i own
fitting once {o = o} i {own = own} is_outer at counted none =
    let begun = begins_with o.scripts own (omega (arith, is_outer.configured.count.0, is_outer.count)) at in
    record {
      is_outer = is_outer;
      rest = begun.0;
      parts = begun.1;
      none = rw (frames_counted once i, ← counted) none;
    }

module _ {o i : RunFiles} {own : List Line} (f : Fitting o i own) where
  pub own_counts : phases own ≡ length (frames_of i)
  own_counts = first_counts o i own f.rest f.parts f.is_outer f.none

  pub they_fit : (inner : List ℕ) → is_too_long (nest_of i) (own ∷ []) ≡ false → misfit inner o i ≡ None
  they_fit inner short = by_length inner o i false f.none (rw f.parts short)

  module _ (stay : PhasesStay) {script : List Line} (made : script ≡ nest_script (nest_of i) own)
      {scripts : List (List Line)} {input : List InputLine} (placed : (own : List Line) (rest : List (List Line))
      → o.scripts ≡ own ∷ rest → scripts ≡ script ∷ rest) (same : input ≡ o.input) where
    scripts_are : scripts ≡ nest_script (nest_of i) own ∷ f.rest
    scripts_are = rw made at (placed own f.rest f.parts)

    pub outer_runnable : AreLines FitsLine script → IsRunnable (setup_of o.config scripts input true true)
    outer_runnable fits = rw (same, scripts_are)
        (nested_runnable stay o i own f.rest f.parts f.is_outer f.none (rw made at fits))

    -- the setup of the outer run is the one that the files make
    pub setup_is : record (setup_of o.config scripts input true true) { inner = Some i } ≡ nested_setup o i
    setup_is = rw (same, scripts_are, f.parts) refl

    pub first_shows : ShowsNest (nest_of i) script → FirstShows (nest_of i) (nested_setup o i).scripts
    first_shows shows = rw f.parts (rw made at shows)

-- ---- the outer run

-- what the law of the headline says of this setup
abbrev pub HeadlineLaw : Setup → Type 0
HeadlineLaw s = (journal : List Entry) (outputs : List File) → IsJournal s journal → AreOutputs s journal outputs
    → Headline s journal outputs

-- what is run within a client changes nothing of the journal and of the files
journal_of : (s : Setup) (x : Option RunFiles) (journal : List Entry) → IsJournal s journal
    → IsJournal (record s { inner = x }) journal
journal_of s x journal j = assumption

outputs_of : (s : Setup) (x : Option RunFiles) (journal : List Entry) (files : List File) → AreOutputs s journal files
    → AreOutputs (record s { inner = x }) journal files
outputs_of s x journal files are =
    (are.0, assumption are.1, are.2)

pub runnable_of : (s : Setup) (x : Option RunFiles) → IsRunnable s → IsRunnable (record s { inner = x })
runnable_of s x r = assumption

pub nested_leaves : {inner : List Entry} (s : Setup) (x : Option RunFiles) {first mid new : StoreModel} {ran : Ran}
    (fault : Option PutFault) {w : Worked} → HeadlineLaw (record s { inner = x }) → HasRun first s mid ran
    → PutsNext (inner_journal_name, journal_text inner) (put_state_of_run mid ran.fault) (put_state_of_run new fault)
    → w.stop.end ≡ end_of_run fault → IfSome fault (λ f. w.stop.name ≡ file_name.Put f.file)
    → w.journal.items ≡ ran.journal.items → w.clients ≡ length s.scripts → w.frames ≡ ran.frames
    → IsAfterNested inner first (record s { inner = x }) new w
nested_leaves {inner = inner} s x {first = first} {mid = mid} {new = new} {ran = ran} fault {w = w} law has put end name
    journal clients frames =
    let is_journal = journal_of s x w.journal.items (rw journal has.journal) in
    let are = outputs_of s x w.journal.items has.outputs (rw journal has.are) in
    record {
      fault = fault;
      has_run = record {
        is_journal = is_journal;
        outputs = has.outputs;
        are = are;
        puts = puts_more has.outputs (inner_journal_name, journal_text inner) (unrefused first)
            (put_state_of_run mid ran.fault) (put_state_of_run new fault) has.puts put;
      };
      headline = law w.journal.items has.outputs is_journal are;
      end_is = end;
      name_is = name;
      clients_are = clients;
      frames_are = rw (frames, journal) has.frames;
    }

-- The frames of an inner run are those of the pictures that a run by turns puts.

-- ---- the frames of shots have the size of the screen

abbrev HaveSize : ℕ → ℕ → List ShotFrame → Type 0
HaveSize w h shots = AllByRecursion (λ f. (f.width ≡ w) × (f.height ≡ h)) shots

sized_more : (config : Configuration) (doing : ActorLine) (d : Drawing) → HaveSize config.width config.height d.shots
    → HaveSize config.width config.height (shots_after config doing d)
sized_more config (ByClient sid l) d all = all
sized_more config (ByUser input.Shot) d all =
    all_append (λ (f : ShotFrame). (f.width ≡ config.width) × (f.height ≡ config.height)) d.shots
    (drawn_shot config d ∷ []) all ((refl, refl), tt)
sized_more config (ByUser (input.Device dev)) d all = all
sized_more config (ByUser input.Phase) d all = all

sized_from : (config : Configuration) (scripts : List (List Line)) (moves : List LineTurn) (d : Drawing)
    → HaveSize config.width config.height d.shots
    → HaveSize config.width config.height (fold (after_turn config scripts) d moves).shots
sized_from config scripts [] d all = all
sized_from config scripts (m ∷ moves) d all =
    sized_from config scripts moves (after_turn config scripts d m) (sized_more config m.doing d all)

sized : (config : Configuration) (scripts : List (List Line)) (lines : List InputLine)
    → HaveSize config.width config.height (shot_frames_of config scripts lines)
unfolding drawn
sized config scripts lines = sized_from config scripts (rounds scripts lines) (opening_drawing config) tt

pictures_are : (w h : ℕ) (shots : List ShotFrame) → HaveSize w h shots → map (λ (f : File). f.1) (map shot_file shots)
    ≡ map (picture w h) (map (λ (f : ShotFrame). f.words) shots)
pictures_are w h [] all = refl
pictures_are w h (f ∷ shots) ((wide, tall), all) = let rest =
    pictures_are w h shots all in λ k. picture (wide k) (tall k) f.words ∷ rest k

-- ---- the last frame is that of the state at the end of the journal

-- what the law of one more entry says
abbrev pub MoreLaw : Type 0
MoreLaw = (config : Configuration) (front : List Entry) (e : Entry)
    → replay config (front ++ e ∷ []) ≡ after (replay config front) e

module _ (law : DrawnLaw) (more : MoreLaw) (fronts : FrontsLaw) (i : RunFiles) (journal : List Entry)
    (stays : (replay i.config journal).config ≡ i.config) (is_journal : IsJournal (by_turns i) journal) where
  state_is : replay i.config journal ≡ (drawn i.config i.scripts (rounds i.scripts i.input)).state
  state_is =
      let of_rounds = is_journal.rounds refl in
      let entries : List Entry = of_rounds.0 in
      let legal : IsLegal i.config (entries ++ entry.Final ∷ []) = rw of_rounds.2 at is_journal.legal in
      rw of_rounds.2 (more i.config entries entry.Final)
      ∙ sym (law i.config i.scripts (rounds i.scripts i.input) entries
      (fronts i.config entries (entry.Final ∷ []) legal) of_rounds.1)

  pub last_pictured : final_picture (by_turns i) journal ≡ picture i.config.width i.config.height (last_frame i)
  last_pictured =
      ap (λ (c : Configuration). picture_of c (replay i.config journal)
      (raw_word (replay i.config journal) (tables_left i.config i.scripts))) stays
      ∙ ap (λ (t : State). picture i.config.width i.config.height
      (frame_of t (raw_word t (tables_left i.config i.scripts)))) state_is

  pub frames_pictured : (files : List File) (are : AreOutputs (by_turns i) journal files)
      → pictures_in are ≡ map (picture i.config.width i.config.height) (frames_of i)
  frames_pictured files are =
      let shots : List ShotFrame = shot_frames_of i.config i.scripts i.input in
      let pictured : List ℕ → List ℕ = picture i.config.width i.config.height in
      rw (
        are.1.by_rounds refl,
        pictures_are i.config.width i.config.height shots (sized i.config i.scripts i.input),
        last_pictured,
      )
      (sym (map-append pictured (map (λ (f : ShotFrame). f.words) shots) (last_frame i ∷ [])))

-- ---- one client in two runs: its events and their text

-- what the law of machines says
abbrev pub StandAlone : Type 0
StandAlone = (config : Configuration) (journal : List Entry) (s : ℕ) → IsLegal config journal
    → s < length config.clients
    → session (replay config journal) s ≡ alone_machine (donation_of config s) (projection s journal)

-- a client's text among the files
there : StandAlone → (config : Configuration) (journal : List Entry) (files : List File) (s : ℕ)
    → IsLegal config journal → s < length config.clients
    → AreTexts config journal files
    → Contains files (events_name (member config s).label, (events_file config journal s).1)
there law config journal files s legal inside texts =
    rw (law config journal s legal inside) (texts.events s inside)

module _ (c d : Configuration) (js ks : List Entry) (s t : ℕ) (legal : IsLegal c js) (other_legal : IsLegal d ks)
    (replies : replies_to s js ≡ replies_to t ks) where
  pub same_events : flat_map (taken s) js ≡ flat_map (taken t) ks
  same_events = events_taken s (first_state c) 0 js legal ∙ ap (λ (rs : List Reply). events_among rs) replies
      ∙ sym (events_taken t (first_state d) 0 ks other_legal)

  module _ (law : StandAlone) (same : IsSameClient c d js ks s t) where
    same_machine : session (replay c js) s ≡ session (replay d ks) t
    same_machine = law c js s legal same.inside ∙ ap₂ (λ n seen. alone_machine n seen) same.donation same.seen
        ∙ sym (law d ks t other_legal same.other_inside)

    pub same_text : (events_file c js s).1 ≡ (events_file d ks t).1
    same_text = ap₂ (λ (es : List Event) (m : Session). flat_map (spelled event_spelling) es
        ++ ending_text (ending_of m)) same_events same_machine

    pub both_there : (fs gs : List File) → AreTexts c js fs → AreTexts d ks gs → HaveSameEvents c d fs gs s t
    both_there fs gs texts other_texts = record {
      text = (events_file c js s).1;
      one = there law c js fs s legal same.inside texts;
      other = rw same_text (there law d ks gs t other_legal same.other_inside other_texts);
    }
