-- What the headline says, from the laws of the crates below.
use Rattle.nit_run.proofs.Basics.{AllByRecursion, AreOfOneHistory, AreOutputs, AreRoundsOf}
use Rattle.nit_run.proofs.Basics.{AreShotsOf, AreTexts, Configuration, Contains}
use Rattle.nit_run.proofs.Basics.{Contains-append_left, Contains-append_right, Contains-push, Ends}
use Rattle.nit_run.proofs.Basics.{Entry, File, FitsEntry, HasPicture, HoldsAtEnd, HoldsAtShot}
use Rattle.nit_run.proofs.Basics.{HoldsByWay, InputLine, IsDrawnPicture, IsHeldPicture, IsJournal}
use Rattle.nit_run.proofs.Basics.{IsLegal, Line, Scenery, Setup, ShowsOneHistory, State, action_of}
use Rattle.nit_run.proofs.Basics.{actions_of_turns, alone_machine, as_many_files, donation_of}
use Rattle.nit_run.proofs.Basics.{drawn_by_shot, events_file, events_files, file_of_a_shot}
use Rattle.nit_run.proofs.Basics.{final_name, final_picture, frame, get_or-map-range_with_len}
use Rattle.nit_run.proofs.Basics.{get_or_from_slice_get, journal_file, length-append}
use Rattle.nit_run.proofs.Basics.{length-map-range_with_len, length_push, map-append, nat_tests}
use Rattle.nit_run.proofs.Basics.{picture_of, pixel, projection, range_with_len, raw_word, replay}
use Rattle.nit_run.proofs.Basics.{rounds, same_throughout, scenery_of, session, shot_name, shots}
use Rattle.nit_run.proofs.Basics.{shots_of, shown, slice_get, slice_get_within, slice_index}
use Rattle.nit_run.proofs.Basics.{slice_index_or, tables_left, text_files}
use Rattle.std.proofs.Common.{Bool, List, Some, [], ap, arith, cond, false, length, map, refl}
use Rattle.std.proofs.Common.{subst, sym, true, zero-add, ℕ, ◌*◌, ◌++◌, ◌+◌, ◌<◌, ◌∷◌, ◌≡◌}
use Rattle.nit_events.specs.declared.device.Device.TheVariants as device
use Rattle.nit_events.specs.declared.entry.Entry.TheVariants as entry
use Rattle.nit_events.specs.declared.event.Event.TheVariants as event

-- ---- the texts of a run that has them

-- the texts of a run that has them, and of one that has none
pub with_texts : (s : Setup) (journal : List Entry) → s.texts ≡ true
    → text_files s journal ≡ events_files s.config journal ++ journal_file journal ∷ []
with_texts s journal is = rw is

-- ---- a picture

-- what the law of frames says
abbrev pub FrameCount : Type 0
FrameCount = (s : Scenery) (raw : List ℕ) → length (frame s raw) ≡ s.width * s.height

abbrev pub FrameEach : Type 0
FrameEach = (s : Scenery) (raw : List ℕ) (k : ℕ) → k < s.width * s.height
    → slice_index (frame s raw) k ≡ shown s (pixel s.width k) (slice_index raw k)

has_picture : FrameCount → FrameEach
    → (config : Configuration) (files : List File) (name bytes : List ℕ) (s : State) (word : ℕ → ℕ)
    → bytes ≡ picture_of config s word → Contains files (name, bytes)
    → HasPicture config files name s (λ k w. w ≡ word k)
has_picture count each config files name bytes s word is has = grind (arith, nat_tests, get_or-map-range_with_len)

contains_map : {X : Type 0} (f : ℕ → X) (n k : ℕ) → k < n → Contains (map f (range_with_len 0 n)) (f k)
contains_map f n k inside =
    (k, rw length-map-range_with_len inside, get_or-map-range_with_len f 0 n k k (f k) inside (zero-add k))

-- ---- the files of a run by rounds

-- what the law of shots says
abbrev pub ShotsLaw : Type 0
ShotsLaw = (config : Configuration) (scripts : List (List Line)) (input : List InputLine) (journal : List Entry)
    → IsLegal config journal → AreRoundsOf journal scripts input
    → AreShotsOf (IsDrawnPicture config scripts input) (journal ++ entry.Final ∷ []) (shots_of config scripts input)

-- what the law of machines says
abbrev pub MachinesLaw : Type 0
MachinesLaw = (config : Configuration) (journal : List Entry) (sid : ℕ) → IsLegal config journal
    → sid < length config.clients → session (replay config journal) sid
    ≡ alone_machine (donation_of config sid) (projection sid journal)

abbrev pub FrontsLaw : Type 0
FrontsLaw = (config : Configuration) (front rest : List Entry) → IsLegal config (front ++ rest) → IsLegal config front

module _ (s : Setup) (journal : List Entry) (outputs : List File) (j : IsJournal s journal)
    (are : AreOutputs s journal outputs) where
  abbrev shot_list : List File
  shot_list = are.0

  abbrev IsDrawn : List Entry → List ℕ → Type 0
  IsDrawn = IsDrawnPicture s.config s.scripts s.input

  pub drawn_along : s.beside ≡ false → ShotsLaw → FrontsLaw → AreShotsOf IsDrawn journal shot_list
  drawn_along alone law fronts = grind (arith, nat_tests)

  abbrev last_file : File
  last_file = (final_name, final_picture s journal)

  -- the files behind those that are made
  abbrev own : List File
  own = shot_list ++ last_file ∷ text_files s journal

  among_own : (f : File) → Contains own f → Contains outputs f
  among_own f has = rw are.2 (Contains-append_right s.made own f has)

  -- the file of a shot, the last picture, or a text, is among all
  pub shot_at : (front : List Entry) (f : File) → slice_get shot_list (shots front) ≡ Some f → Contains outputs f
  shot_at front f e = among_own f (Contains-append_left shot_list (last_file ∷ text_files s journal) f
      (shots front, slice_get_within shot_list (shots front) f e, get_or_from_slice_get shot_list (shots front) f f e))

  the_last : Contains outputs last_file
  the_last = grind (arith, nat_tests, among_own, Contains-append_right, Contains-append_left, Contains-push)

  among_texts : (f : File) → Contains (text_files s journal) f → Contains outputs f
  among_texts f has = among_own f
      (Contains-append_right shot_list (last_file ∷ text_files s journal) f
      (Contains-append_right (last_file ∷ []) (text_files s journal) f has))

  -- the file of a shot by rounds, and of one beside others
  pub shot_shows : ShotsLaw → FrontsLaw → FrameCount → FrameEach → (front rest : List Entry) (number : ℕ)
      → journal ≡ front ++ entry.Shot number ∷ rest → (s.beside ≡ true
      → HasPicture s.config outputs (shot_name number) (replay s.config front) (HoldsByWay true s front))
      → HasPicture s.config outputs (shot_name number) (replay s.config front) (HoldsAtShot s front)
  shot_shows law fronts count each front rest number parts near = by_way s.beside refl
    where
      by_way : (b : Bool) → s.beside ≡ b
          → HasPicture s.config outputs (shot_name number) (replay s.config front) (HoldsByWay b s front)
      by_way false alone =
          let (bytes, there, is) =
          file_of_a_shot IsDrawn [] front rest number shot_list
          (subst (λ (es : List Entry). AreShotsOf IsDrawn es shot_list) parts (drawn_along alone law fronts)) in
          has_picture count each s.config outputs (shot_name number) bytes (replay s.config front)
          (drawn_by_shot s.config s.scripts s.input (shots front)).word is
          (shot_at front (shot_name number, bytes) there)
      by_way true together = near together

  -- the shots of a run beside others show one history of raw words
  pub history_shows : FrameCount → FrameEach → s.beside ≡ true → ShowsOneHistory s journal outputs
  history_shows count each together =
      record { held = one.held; is_held = one.is_held; shots_show = shot }
    where
      one : AreOfOneHistory s.config s.scripts s.input journal shot_list
      one = are.1.history together

      shot : (front rest : List Entry) (number : ℕ) → journal ≡ front ++ entry.Shot number ∷ rest
          → HasPicture s.config outputs (shot_name number) (replay s.config front)
          (λ k w. (w ≡ one.held (length front) k) × HoldsAtShot s front k w)
      shot front rest number parts =
          let t = replay s.config front in
          let Pic = IsHeldPicture one.held s.config s.scripts s.input in
          let (bytes, there, ((words, (raw, near, frame_is), is), by_held)) =
          file_of_a_shot Pic [] front rest number shot_list
          (subst (λ (es : List Entry). AreShotsOf Pic es shot_list) parts one.shown) in (
            words,
            rw is at (shot_at front (shot_name number, bytes) there),
            record {
              count = rw frame_is (count (scenery_of t) raw);
              each = λ k inside. (
                slice_index_or raw k 0,
                (
                  by_held k (rw (same_throughout s.config front) at inside),
                  subst (λ b. HoldsByWay b s front k (slice_index_or raw k 0)) (sym together) (near k inside),
                ),
                rw frame_is (each (scenery_of t) raw k inside),
              );
            },
          )

  pub end_shows : FrameCount → FrameEach → (replay s.config journal).config ≡ s.config
      → HasPicture s.config outputs final_name (replay s.config journal) (HoldsAtEnd s journal)
  end_shows count each same =
      let t = replay s.config journal in
      let word = raw_word t (tables_left s.config s.scripts) in
      has_picture count each s.config outputs final_name (final_picture s journal) t word
      (rw same refl) the_last

  -- the texts
  pub texts_tell : MachinesLaw → AllByRecursion FitsEntry journal → s.texts ≡ true → AreTexts s.config journal outputs
  texts_tell law fits has = record {
    events = λ sid inside.
        let f = events_file s.config journal sid in
        rw (law s.config journal sid j.legal inside) at (among_texts f (rw on
        (Contains-append_left (events_files s.config journal) (journal_file journal ∷ []) f
        (contains_map (events_file s.config journal) (length s.config.clients) sid inside))));
    journal_too = among_texts (journal_file journal)
        (rw on (Contains-push (events_files s.config journal) (journal_file journal)));
    reads = (fits, refl);
  }
    where
      on : text_files s journal ≡ events_files s.config journal ++ journal_file journal ∷ []
      on = with_texts s journal has

  shots_counted : ShotsLaw → FrontsLaw → (s.beside ≡ true → length shot_list ≡ shots journal)
      → length shot_list ≡ shots journal
  shots_counted law fronts near = grind (arith, nat_tests, as_many_files, drawn_along)

  pub files_counted : ShotsLaw → FrontsLaw → (s.beside ≡ true → length shot_list ≡ shots journal)
      → length outputs ≡ length s.made + (shots journal + 1 + cond s.texts (length s.config.clients + 1) 0)
  files_counted law fronts near =
      let pictures = shots_counted law fronts near in
      let behind = length-append shot_list (last_file ∷ text_files s journal) in
      omega (arith, pictures, behind, ap length are.2, length-append s.made own, count_texts s.texts)
    where
      count_texts : (b : Bool) → length (cond b (events_files s.config journal ++ journal_file journal ∷ []) [])
          ≡ cond b (length s.config.clients + 1) 0
      count_texts true = grind (arith, nat_tests, length_push, length-map-range_with_len)
      count_texts false = refl

-- ---- one setup, one run

-- what the law of acts says
abbrev pub ActsLaw : Type 0
ActsLaw = (config : Configuration) (js ks : List Entry) → IsLegal config js → IsLegal config ks
    → map action_of js ≡ map action_of ks → js ≡ ks

acts_of_run : (s : Setup) (journal : List Entry) → s.beside ≡ false → IsJournal s journal
    → map action_of journal ≡ actions_of_turns (rounds s.scripts s.input) ++ Ends ∷ []
acts_of_run s journal alone j = grind (arith, nat_tests, map-append)

pub same_journal : ActsLaw → (s : Setup) (js ks : List Entry) → s.beside ≡ false → IsJournal s js → IsJournal s ks
    → js ≡ ks
same_journal law s js ks alone j k = grind (arith, nat_tests, acts_of_run)

pub same_files : ActsLaw → (s : Setup) (js ks : List Entry) (fs gs : List File) → s.beside ≡ false → IsJournal s js
    → IsJournal s ks → AreOutputs s js fs → AreOutputs s ks gs → fs ≡ gs
same_files law s js ks fs gs alone j k f g = grind (arith, nat_tests, same_journal)
