-- What a run leaves: its journal, and its files.
use Rattle.std.proofs.Common.{List, None, Option, Some, [], ap, arith, drop, false, get_or, inl}
use Rattle.std.proofs.Common.{inr, length, map, refl, take, take_all, zero-add, ℕ, ◌++◌, ◌+◌, ◌<◌}
use Rattle.std.proofs.Common.{◌∙◌, ◌∷◌, ◌≡◌, ◌≤◌}
use Rattle.nit_perform.proofs.Basics.{All, AreInkedPlans, AreRoundsOf, AreScriptsOf, AreShots}
use Rattle.nit_perform.proofs.Basics.{CanTakeLast, Configuration, Entry, File, HasRun, HaveTables}
use Rattle.nit_perform.proofs.Basics.{InputLine, IsGlass, IsJournal, IsRoundsOpening, IsRoundsRun}
use Rattle.nit_perform.proofs.Basics.{IsSetUp, IsSetting, IsWhole, IsWord, IsWordOfSource, Line}
use Rattle.nit_perform.proofs.Basics.{Member, OpenedRounds, Painted, PixelSource, PlanModel, Point}
use Rattle.nit_perform.proofs.Basics.{PutState, PutsAll, PutsNext, Ran, SceneModel, Session, Setup}
use Rattle.nit_perform.proofs.Basics.{Sight, Size, State, StoreModel, TakesLast, View, Word, after}
use Rattle.nit_perform.proofs.Basics.{among, as_many_as_clients, bar_rows, black_or_word}
use Rattle.nit_perform.proofs.Basics.{buffer_place, buffer_size, calls_to_make, cases_lt, count_by}
use Rattle.nit_perform.proofs.Basics.{donation_of, final_name, final_picture, first_session}
use Rattle.nit_perform.proofs.Basics.{first_state, frame, get_or-map-range_with_len, get_or_default}
use Rattle.nit_perform.proofs.Basics.{get_or_past, glass_after, glass_in, glasses_of, is_shot_entry}
use Rattle.nit_perform.proofs.Basics.{kept_config, length-map, length-map-range_with_len, map-id}
use Rattle.nit_perform.proofs.Basics.{map-range_with_len_more, member, most_units, nat_tests}
use Rattle.nit_perform.proofs.Basics.{negsuc, no_sight, owner, picture, picture_by, pixel}
use Rattle.nit_perform.proofs.Basics.{pixel_count, plans_of, pos, put_state_of_run, puts_both}
use Rattle.nit_perform.proofs.Basics.{range_with_len, raw_words, replay_from, same_frame}
use Rattle.nit_perform.proofs.Basics.{scenery_of, script_in, shots, shots_of, shown_index}
use Rattle.nit_perform.proofs.Basics.{slice_index, source_at, source_under, state_now, sum_by-cons}
use Rattle.nit_perform.proofs.Basics.{table_size, tables_left, take-append_seam, text_files}
use Rattle.nit_perform.proofs.Basics.{told_word, unrefused, user_actions_to_do, word_from}
use Rattle.nit_perform.proofs.Basics.{words_after, ℤ}
use Rattle.nit_events.specs.declared.entry.Entry.TheVariants as entry

-- What is made for each client, in order, of its session, its script and its donation.

-- ---- one by one

-- the client in a list of a configuration's clients
pub at_member : (config : Configuration) {clients : List Member} (k : ℕ) (other : Member) → clients ≡ config.clients
    → k < length config.clients → get_or clients k other ≡ member config k
at_member config k other are inside = rw are (get_or_default config.clients k other _ inside)

-- one more of what is made
pub one_made : {X : Type 0} (make : ℕ → X) (k : ℕ) {x : X} {old new : List X} → old ≡ map make (range_with_len 0 k)
    → x ≡ make k → new ≡ old ++ x ∷ [] → new ≡ map make (range_with_len 0 (k + 1))
one_made make k before made more = rw (more, before, made, ← map-range_with_len_more make 0 k k (zero-add k))

-- the plans are those of the scripts
pub setting : {config : Configuration} {scripts : List (List Line)} {plans : List PlanModel}
    → length scripts ≡ length config.clients → plans ≡ plans_of config scripts → IsSetting config scripts plans
setting {scripts = scripts} sessions are = record {
  sessions = sessions;
  plans_each = rw (are, length-map-range_with_len);
  planned = λ k inside. rw are (get_or-map-range_with_len _ 0 (length scripts) k k _ inside (zero-add k));
}

pub inked : {config : Configuration} {scripts : List (List Line)} {plans : List PlanModel} → AreScriptsOf config scripts
    → plans ≡ plans_of config scripts → All (λ (p : PlanModel). All IsWord p.ink) plans → AreInkedPlans config plans
inked of are words =
    record { configured = of.configured; each = rw (are, length-map-range_with_len, of.each); words = words }

-- ---- all of them

abbrev pub WordsLaw : Type 0
WordsLaw = (script : List Line) (donation k : ℕ) → donation ≤ most_units → length (words_after script donation k)
    ≡ table_size donation

-- the glass of a session, with no line done
blank_at : (config : Configuration) (scripts : List (List Line)) (t : ℕ) → t < length scripts
    → glass_in (glasses_of config scripts) t ≡ glass_after t (script_in scripts t) (donation_of config t) 0
blank_at config scripts t inside =
    get_or-map-range_with_len (λ n. glass_after n (script_in scripts n) (donation_of config n) 0) 0 (length scripts) t t
    no_sight inside (zero-add t)

pub set_up : {config : Configuration} {scripts : List (List Line)} {plans : List PlanModel} {glasses owns : List Sight}
    → IsSetting config scripts plans → glasses ≡ glasses_of config scripts → owns ≡ glasses_of config scripts
    → IsSetUp config scripts plans glasses owns
set_up {config = config} {scripts = scripts} s glasses_are owns_are = rw (glasses_are, owns_are) (record {
  sessions = s.sessions;
  plans_each = s.plans_each;
  owns_each = rw length-map-range_with_len;
  same = refl;
  planned = s.planned;
  blank = blank_at config scripts;
})

pub blank_glass : WordsLaw → {config : Configuration} {scripts : List (List Line)} {glasses : List Sight}
    → AreScriptsOf config scripts → glasses ≡ glasses_of config scripts → (t : ℕ) → t < length config.clients
    → IsGlass config t (glass_in (map (λ g. g) glasses) t)
blank_glass law {config = config} {scripts = scripts} of are t inside =
    let there : t < length scripts = rw of.each inside in
    let few : donation_of config t ≤ 8388608 = (of.configured.clients t _ inside).donation.1 in
    let words = law (script_in scripts t) (donation_of config t) 0 (omega (arith, few)) in
    rw (map-id, are, blank_at config scripts t there) (refl, words)

-- ---- at the end

-- the last picture may be taken of what a run by rounds leaves
pub can_take_last : WordsLaw → {config : Configuration} {scripts : List (List Line)} {input : List InputLine}
    {o : OpenedRounds} {mid : SceneModel Sight} {owns : List Sight} → IsRoundsOpening config scripts input o
    → IsRoundsRun scripts input o.scene mid owns → CanTakeLast mid owns
can_take_last law {config = config} {scripts = scripts} opened run = record {
  spare = omega (arith, simp length-map at (ap length run.entries));
  unended = run.unended;
  each = rw (run.owns_each, opened.scripts_each.each, run.config, opened.configuration);
  tables = λ t inside.
      let there : t < length scripts = rw (← run.owns_each) inside in
      let member_there : t < length config.clients = rw (← opened.scripts_each.each) there in
      let script = script_in scripts t in
      let few : donation_of config t ≤ 8388608 =
      (opened.scripts_each.configured.clients t _ member_there).donation.1 in
      let words = law script (donation_of config t) (length script) (omega (arith, few)) in
      rw (run.config, opened.configuration, run.words t there)
      (refl, rw (opened.configuration, ← take_all (length script) script (omega arith)) words);
}

-- and the glasses hold the words that the scripts leave
pub left_tables : {scripts : List (List Line)} {input : List InputLine} {before mid : SceneModel Sight}
    {owns : List Sight} → IsRoundsRun scripts input before mid owns
    → HaveTables owns (tables_left before.config scripts)
left_tables run = λ t inside. rw (run.words t (rw (← run.owns_each) inside))

-- The raw words of the last picture: each is the word that its source has in the tables.

-- ---- a word is of a session that there is

none_among : (z : ℤ) → among z 0 ≡ None
none_among (pos n) = grind (arith, nat_tests)
none_among (negsuc n) = refl

no_columns : (size : Size) (v : View) (p : Point) → size.w ≡ 0 → shown_index size v p ≡ None
no_columns size v p none = rw (none, none_among (buffer_place p.x v.rect.x v.ox))

word_under : (o : Option ℕ) (t u i : ℕ) → black_or_word u o ≡ Word t i → (u ≡ t) × (o ≡ Some i)
word_under None t u i e = absurd cc
word_under (Some x) t u i e = (cc, cc)

of_a_session : (sessions : List Session) (p : Point) (o : Option View) (t i : ℕ)
    → source_under (buffer_size sessions) p o ≡ Word t i → t < length sessions
of_a_session sessions p None t i e = absurd cc
of_a_session sessions p (Some v) t i e =
    let word = word_under (shown_index (buffer_size sessions v.sid) v p) t v.sid i e in
    elim (cases_lt t (length sessions)) [
      | inl inside ↦ inside
      | inr past ↦
          let none = no_columns (buffer_size sessions v.sid) v p
          (rw (word.0, get_or_past sessions t (first_session 0) past)) in
          absurd cc
    ]

-- ---- each word

held_word : (glasses : ℕ → Sight) (tables : ℕ → List ℕ) (source : PixelSource) (w : ℕ)
    → ((t i : ℕ) → source ≡ Word t i → (glasses t).words ≡ Some (tables t)) → IsWordOfSource glasses source w
    → w ≡ word_from tables source
held_word glasses tables (Word t i) w told held = told_word (glasses t).words (tables t) i w (told t i refl) held.told
held_word glasses tables other w told held = held

-- ---- the scene after its last picture

-- what the law of one more entry says
abbrev pub OneMore : Type 0
OneMore = (s : State) (journal : List Entry) (e : Entry) → replay_from s (journal ++ e ∷ [])
    ≡ after (replay_from s journal) e

pub finished_frame : (old new : SceneModel Sight) (owns owns' : List Sight) (tables : ℕ → List ℕ) → OneMore
    → new.config ≡ old.config → new.entries ≡ old.entries ++ entry.Final ∷ [] → length owns ≡ length old.config.clients
    → HaveTables owns tables
    → Painted (state_now old) entry.Final (state_now new) (glass_in (map (λ g. g) owns)) (glass_in (map (λ g. g) owns'))
    old.raw new.raw
    → frame (scenery_of (state_now old)) new.raw ≡ frame (scenery_of (state_now old)) (raw_words (state_now old) tables)
finished_frame old new owns owns' tables more config recorded each have painted =
    same_frame (scenery_of s) new.raw (raw_words s tables) (λ k on_screen.
    rw (get_or-map-range_with_len (λ (n : ℕ). word_from tables (source_at s n)) 0 (pixel_count s) k k 0 on_screen
    (zero-add k)) (held_word (glass_in (map (λ g. g) owns)) tables (source_at s k) (slice_index new.raw k)
    (λ t i is. tell t (of_a_session s.sessions (pixel s.config.width k)
    (owner (bar_rows s.config) s.stack (pixel s.config.width k)) t i is)) (settled.marked k on_screen refl).0))
  where
    s : State
    s = state_now old

    settled : Painted s entry.Final s (glass_in (map (λ g. g) owns)) (glass_in (map (λ g. g) owns')) old.raw new.raw
    settled = rw (config, recorded, more (first_state old.config) old.entries entry.Final) at painted

    tell : (t : ℕ) → t < length s.sessions → (glass_in (map (λ g. g) owns) t).words ≡ Some (tables t)
    tell t inside = rw (map-id owns, have t (rw (as_many_as_clients old.config old.entries, ← each) at inside))

-- ---- its picture

pub last_picture : (s : SceneModel Sight) (tables : ℕ → List ℕ) (size : ℕ × ℕ) (shown_ : List ℕ)
    → size ≡ (s.config.width, s.config.height)
    → shown_ ≡ frame (scenery_of (state_now s)) (raw_words (state_now s) tables)
    → picture size.0 size.1 shown_ ≡ picture_by (state_now s) tables
last_picture s tables size shown_ sized is = rw (sized, is, kept_config (first_state s.config) s.entries)

-- what was written over a whole buffer
pub written_whole : {X : Type 0} (n : ℕ) (written before : List X) → length written ≡ n
    → take n (written ++ drop (length written) before) ≡ written
written_whole n written before long = rw (← long, take-append_seam written (drop (length written) before))

pub shots_counted : (journal : List Entry) → count_by is_shot_entry journal ≡ shots journal
shots_counted [] = refl
shots_counted (entry.Shot n ∷ rest) = sum_by-cons _ (entry.Shot n) rest ∙ omega (arith, shots_counted rest)
shots_counted (other ∷ rest) = sum_by-cons _ other rest ∙ omega (arith, shots_counted rest)

-- what the law of rounds says
abbrev pub WholeLaw : Type 0
WholeLaw = (scripts : List (List Line)) (input : List InputLine) (journal : List Entry)
    → AreRoundsOf journal scripts input
    → IsWhole (map calls_to_make scripts) (user_actions_to_do input) (journal ++ entry.Final ∷ [])

-- the journal is one of the run by turns
pub rounds_journal : WholeLaw → (s : Setup) {mid last : SceneModel Sight} → mid.config ≡ s.config
    → AreRoundsOf mid.entries s.scripts s.input → TakesLast mid last → IsJournal s last.entries
rounds_journal whole s {mid = mid} config rounds_are taken = record {
  legal = rw (taken.config ∙ config) at taken.legal;
  whole = rw taken.recorded (whole s.scripts s.input mid.entries rounds_are);
  rounds = λ by. (mid.entries, rounds_are, taken.recorded);
}

-- what is put at the end, whatever was put before
abbrev pub PutsLast : State → List Sight → PutState → PutState → Type 0
PutsLast s owns at new = (tables : ℕ → List ℕ) → HaveTables owns tables
    → PutsNext (final_name, picture_by s tables) at new

-- a run put its shots' files, the last picture, and its texts
pub has_run : {s : Setup} {first new : StoreModel} {ran : Ran} {journal : List Entry} (files : List File)
    (at final : PutState) → ran.journal.items ≡ journal → s.made ≡ [] → IsJournal s journal
    → ran.frames ≡ shots journal + 1 → AreShots s journal files → PutsAll files (unrefused first) at
    → PutsNext (final_name, final_picture s journal) at final
    → PutsAll (text_files s journal) final (put_state_of_run new ran.fault) → HasRun first s new ran
has_run {s = s} {first = first} {new = new} {ran = ran} {journal = journal} files at final is none legal frames are
    puts last texts =
    let behind : List File = (final_name, final_picture s journal) ∷ text_files s journal in
    record {
      journal = rw is legal;
      frames = rw is frames;
      outputs = files ++ behind;
      are = rw is (files, are, rw none);
      puts = puts_both files behind (unrefused first) at (put_state_of_run new ran.fault) puts (final, last, texts);
    }

pub run_leaves : {s : Setup} {start mid last : SceneModel Sight} {owns : List Sight} {first new : StoreModel}
    (at final : PutState) {ran : Ran}
    → WholeLaw → OneMore → s.beside ≡ false → s.made ≡ [] → start.config ≡ s.config
    → IsRoundsRun s.scripts s.input start mid owns → TakesLast mid last
    → PutsAll (shots_of start.config s.scripts s.input) (unrefused first) at
    → PutsLast (state_now mid) owns at final
    → PutsAll (text_files s last.entries) final (put_state_of_run new ran.fault)
    → ran.journal.items ≡ last.entries → ran.frames ≡ shots last.entries + 1 → HasRun first s new ran
run_leaves {s = s} {mid = mid} {last = last} at final whole more alone none begun run taken shots_ puts_last texts is
    frames =
    let last_put : PutsNext (final_name, final_picture s last.entries) at final =
    rw (taken.recorded, more (first_state s.config) mid.entries entry.Final)
    (rw (run.config, begun) at (puts_last (tables_left s.config s.scripts) (rw begun at (left_tables run)))) in
    has_run (shots_of s.config s.scripts s.input) at final is none
    (rounds_journal whole s (run.config ∙ begun) run.entries taken) frames
    (record { by_rounds = λ by. refl; beside = λ by. absurd cc; history = λ by. absurd cc })
    (rw begun at shots_) last_put texts
