-- The names of the files that a run puts differ, and those of the files that are made before it.
use Rattle.std.proofs.Common.{Bool, Err, List, None, Ok, Option, Result, Some, [], add-one, ap}
use Rattle.std.proofs.Common.{append_assoc, arith, cond, drop, false, get_or, inl, inr, length, map}
use Rattle.std.proofs.Common.{refl, subst, suc, sym, take, true, zero, ℕ, ◌++◌, ◌+◌, ◌<◌, ◌∙◌, ◌∷◌}
use Rattle.std.proofs.Common.{◌≡◌, ◌≢◌, ◌≤◌, ◌⊎◌}
use Rattle.nit_top.proofs.Basics.{Apart, AreAdded, AreOutputs, Audit, Begin, BeginOther, Capture}
use Rattle.nit_top.proofs.Basics.{Clip, Command, Configuration, Entry, File, FrontsLaw, Gen}
use Rattle.nit_top.proofs.Basics.{HasDifferentNames, IsCommandRun, IsInnerJournal, IsJournal}
use Rattle.nit_top.proofs.Basics.{IsNearPicture, IsRunConfiguration, IsRunnable, IsSetupOf, Member}
use Rattle.nit_top.proofs.Basics.{Nested, NoCommand, Numbered, OtherThan, PutError, RunFiles}
use Rattle.nit_top.proofs.Basics.{SayingRefused, Says, Setup, ShotsLaw, Still, StoreModel}
use Rattle.nit_top.proofs.Basics.{actions_few, all_append, apart_by, apart_front}
use Rattle.nit_top.proofs.Basics.{append_cancel_left, append_cancel_right, begin_other, codes}
use Rattle.nit_top.proofs.Basics.{differ, done, drawn_along, events_begin, events_file}
use Rattle.nit_top.proofs.Basics.{events_files, events_name, film_name, final_name, final_picture}
use Rattle.nit_top.proofs.Basics.{first_state, flat_map, generated_files, inner_journal_name}
use Rattle.nit_top.proofs.Basics.{journal_file, made_by, member, numbered, other_letter}
use Rattle.nit_top.proofs.Basics.{range_with_len, rules, saying-saying, shots, shots_apart_all}
use Rattle.nit_top.proofs.Basics.{shots_begin, slice_index, text_files, texts_other}
use Rattle.nit_top.proofs.Basics.{user_actions_from, user_actions_of, with_said}
use Rattle.std.specs.Fmt.{digits}

-- ---- the files that are made before a run

generated_apart : (n : ℕ) → Apart (generated_files n)
unfolding digits
generated_apart n = search rules

generated_begin : (n : ℕ) → Begin 103 (generated_files n)
generated_begin n = search rules

pub made_differ : (c : Command) → HasDifferentNames (made_by c)
made_differ (Gen number) = differ (generated_files number) (generated_apart number)
made_differ other = refl

-- ---- the files that are made for a setup

-- no two have one name, and each name begins with a g
abbrev pub IsMade : List File → Type 0
IsMade made = Begin 103 made × Apart made

pub made_apart : (c : Command) (s : Setup) → IsSetupOf c s → IsMade s.made
made_apart (Still width height script) s of = rw of.1 (tt, tt)
made_apart (Gen number) s of = rw of (generated_begin number, generated_apart number)
made_apart (Audit configuration journal) s of = absurd of
made_apart (Nested outer inner) s of = rw of.setup (tt, tt)
made_apart NoCommand s of = absurd of
made_apart other s of = rw of.2 (tt, tt)

-- ---- the files that a run puts

-- there is at most one, and its name begins with a c or an i
record IsMore (added : List File) : Type 0 where
  letter : ℕ
  own : (letter ≡ 99) ⊎ (letter ≡ 105)
  begin : Begin letter added
  apart : Apart added

none_more : IsMore []
none_more = record { letter = 99; own = inl refl; begin = tt; apart = tt }

one_more : (f : File) (letter : ℕ) → (letter ≡ 99) ⊎ (letter ≡ 105) → slice_index f.0 0 ≡ letter → IsMore (f ∷ [])
one_more f letter own is = record { letter = letter; own = own; begin = (is, tt); apart = (tt, tt) }

added_more : (c : Command) (s : Setup) (journal : List Entry) (files : List File) (are : AreOutputs s journal files)
    (added : List File) → AreAdded c are added → IsMore added
added_more (Clip configuration) s journal files are added (f, (clips, list, is), one) =
    rw one (one_more f 99 (inl refl) (rw is refl))
added_more (Nested outer inner) s journal files are added is = by_inner s.inner is
  where
    by_inner : (inner : Option RunFiles) → IsInnerJournal inner added → IsMore added
    by_inner None is = absurd is
    by_inner (Some i) (journal, is_journal, one) = rw one (one_more (inner_journal_name, _) 105 (inr refl) refl)
added_more (Capture configuration region) s journal files are added one =
    rw one (one_more (film_name, _) 99 (inl refl) refl)
added_more other s journal files are added none = rw none none_more

more_other : (added : List File) → IsMore added → (other : ℕ) → ◌≢◌ {A = ℕ} 99 other → ◌≢◌ {A = ℕ} 105 other
    → BeginOther other added
more_other added more other c i =
    begin_other more.letter other added more.begin
    (λ is. elim more.own [ inl own ↦ c (sym own ∙ is) | inr own ↦ i (sym own ∙ is) ])

-- ---- the texts

abbrev no_member : Member
no_member = record { label = []; donation = 0; script = []; layer = 0; clicks = false }

events_apart : (config : Configuration) → IsRunConfiguration config → (i j : ℕ) → i < j → j < length config.clients
    → events_name (member config i).label ≢ events_name (member config j).label
events_apart config is i j before inside same =
    is.labels i j no_member before inside
    (append_cancel_right (member config i).label (member config j).label (codes ".txt")
    (append_cancel_left (codes "events-") ((member config i).label ++ codes ".txt")
    ((member config j).label ++ codes ".txt") same))

module _ (config : Configuration) (is : IsRunConfiguration config) (journal : List Entry) where
  later_events : (i first count : ℕ) → i < first → first + count ≤ length config.clients
      → OtherThan (events_name (member config i).label) (map (events_file config journal) (range_with_len first count))
  later_events i first zero before inside = tt
  later_events i first (suc count) before inside = (
    events_apart config is i first before (omega arith),
    later_events i (first + 1) count (omega arith) (omega arith),
  )

  some_apart : (first count : ℕ) → first + count ≤ length config.clients
      → Apart (map (events_file config journal) (range_with_len first count))
  some_apart first zero inside = tt
  some_apart first (suc count) inside =
      (later_events first (first + 1) count (omega arith) (omega arith), some_apart (first + 1) count (omega arith))

-- ---- the shots

shots_few : (es : List Entry) → shots es ≤ length (user_actions_of es)
shots_few [] = omega arith
shots_few (e ∷ es) = grind (arith, shots_few es)

-- ---- all files of a run

module _ (s : Setup) (runnable : IsRunnable s) (journal : List Entry) (j : IsJournal s journal) (law : ShotsLaw)
    (fronts : FrontsLaw) where
  few : shots journal ≤ 65536
  few =
      let some = shots_few journal in
      let actions : length (user_actions_of journal) ≡ length (done (user_actions_from 0 s.input)) =
      ap length j.whole.actions in
      let short = actions_few 0 s.input in
      let lines = runnable.input_lines.1 in
      omega arith

  shots_are : (files : List File) (are : AreOutputs s journal files) → Numbered 1 are.0 × (length are.0 ≡ shots journal)
  shots_are files are = by_way s.beside refl
    where
      by_way : (b : Bool) → s.beside ≡ b → Numbered 1 are.0 × (length are.0 ≡ shots journal)
      by_way false alone = numbered _ (first_state s.config) 0 [] journal are.0 j.legal
          (drawn_along s journal files j are alone law fronts)
      by_way true together = numbered (IsNearPicture s.config s.scripts s.input)
          (first_state s.config) 0 [] journal are.0 j.legal
          (are.1.beside together)

  module _ (added : List File) (more : IsMore added) where
    texts_apart : Apart (text_files s journal ++ added)
    texts_apart = whether_texts s.texts
      where
        whether_texts : (b : Bool)
            → Apart (cond b (events_files s.config journal ++ journal_file journal ∷ []) [] ++ added)
        whether_texts false = more.apart
        whether_texts true =
            let events = events_files s.config journal in
            let last = journal_file journal ∷ [] in
            rw (append_assoc events last added)
            (apart_by 101 events (last ++ added) (events_begin s.config journal 0 (length s.config.clients))
            ((λ e. omega arith), more_other added more 101 (λ e. omega arith) (λ e. omega arith))
            (some_apart s.config runnable.configured journal 0 (length s.config.clients) (omega arith))
            (apart_by 106 last added (refl, tt) (more_other added more 106 (λ e. omega arith) (λ e. omega arith))
            (tt, tt) more.apart))

    behind_other : (letter : ℕ) → ◌≢◌ {A = ℕ} 101 letter → ◌≢◌ {A = ℕ} 106 letter → ◌≢◌ {A = ℕ} 99 letter
        → ◌≢◌ {A = ℕ} 105 letter → BeginOther letter (text_files s journal ++ added)
    behind_other letter e j c i = all_append (λ f. slice_index f.0 0 ≢ letter) (text_files s journal) added
        (whether_texts s.texts) (more_other added more letter c i)
      where
        whether_texts : (b : Bool)
            → BeginOther letter (cond b (events_files s.config journal ++ journal_file journal ∷ []) [])
        whether_texts false = tt
        whether_texts true = texts_other s.config journal letter e j

    abbrev last_on : List File
    last_on = (final_name, final_picture s journal) ∷ (text_files s journal ++ added)

    last_apart : Apart last_on
    last_apart = (
      other_letter final_name 102 (text_files s journal ++ added) refl
          (behind_other 102 (λ e. omega arith) (λ e. omega arith) (λ e. omega arith) (λ e. omega arith)),
      texts_apart,
    )

    last_other : (letter : ℕ) → ◌≢◌ {A = ℕ} 102 letter → ◌≢◌ {A = ℕ} 101 letter → ◌≢◌ {A = ℕ} 106 letter
        → ◌≢◌ {A = ℕ} 99 letter → ◌≢◌ {A = ℕ} 105 letter → BeginOther letter last_on
    last_other letter f e j c i = (f, behind_other letter e j c i)

    outputs_apart : (files : List File) → AreOutputs s journal files → IsMade s.made → Apart (files ++ added)
    outputs_apart files are made =
        let shown = are.0 in
        let counted = shots_are files are in
        let long = counted.1 in
        let small = few in
        let begin : Begin 115 shown = shots_begin 1 shown counted.0 in
        let own : Apart (shown ++ last_on) =
        apart_by 115 shown last_on begin
        (last_other 115 (λ e. omega arith) (λ e. omega arith) (λ e. omega arith) (λ e. omega arith)
        (λ e. omega arith)) (shots_apart_all 1 shown (omega arith) counted.0) last_apart in
        let other : BeginOther 103 (shown ++ last_on) =
        all_append (λ f. slice_index f.0 0 ≢ 103) shown last_on (begin_other 115 103 shown begin (λ e. omega arith))
        (last_other 103 (λ e. omega arith) (λ e. omega arith) (λ e. omega arith) (λ e. omega arith)
        (λ e. omega arith)) in
        rw (parts files are) (apart_by 103 s.made (shown ++ last_on) made.0 other made.1 own)
      where
        parts : (files : List File) (are : AreOutputs s journal files) → files ++ added ≡ s.made ++ (are.0 ++ last_on)
        parts files are =
            let last : File = (final_name, final_picture s journal) in
            rw (
              are.2,
              append_assoc s.made (are.0 ++ last ∷ text_files s journal) added,
              append_assoc are.0 (last ∷ text_files s journal) added,
            ) refl

pub outputs_differ : ShotsLaw → FrontsLaw → (c : Command) (s : Setup) (journal : List Entry) (files : List File)
    → IsRunnable s → IsSetupOf c s → IsJournal s journal → AreOutputs s journal files → HasDifferentNames files
outputs_differ law fronts c s journal files runnable of j are =
    differ files (apart_front files []
    (outputs_apart s runnable journal j law fronts [] none_more files are (made_apart c s of)))

pub puts_differ : ShotsLaw → FrontsLaw
    → (old : StoreModel) (c : Command) (journal : List Entry) (run : IsCommandRun old c journal)
    → HasDifferentNames run.puts
puts_differ law fronts old c journal run =
    let s = run.setup in
    let more = added_more c s journal run.outputs run.are run.added run.added_are in
    let all : Apart (run.outputs ++ run.added) = outputs_apart s run.files_are.runnable journal run.headline.one_journal
    law fronts run.added more run.outputs run.are (made_apart c s run.files_are.of_command) in
    differ run.puts (rw run.puts_are all)

-- ---- pieces of a text that are said one after the other

-- a piece, and then the rest of the text
pub says_then : {T : Type 0} (old : StoreModel) (a b : List ℕ) (mid new : StoreModel) (r : Result T PutError)
    → mid ≡ with_said old a → Says mid b new r → Says old (a ++ b) new r
says_then old a b mid new (Ok x) e h = h ∙ ap (λ (s : StoreModel). with_said s b) e ∙ saying-saying old a b
says_then old a b mid new (Err x) e h =
    let same : with_said mid h.0 ≡ with_said old (a ++ h.0) = ap (λ (s : StoreModel). with_said s h.0) e
    ∙ saying-saying old a h.0 in (
      a ++ h.0,
      h.1,
      ap (λ (t : List ℕ). a ++ t) h.2 ∙ sym (append_assoc a h.0 h.1),
      subst (λ (s : StoreModel). SayingRefused s new x) same h.3,
    )

-- a piece that was refused
pub says_stop : (T : Type 0) (old : StoreModel) (a b text : List ℕ) (mid new : StoreModel) (e : PutError)
    → mid ≡ with_said old a → Says {T = T} mid b new (Err e) → (rest : List ℕ) → text ≡ a ++ (b ++ rest)
    → Says {T = T} old text new (Err e)
says_stop T old a b text mid new e is h rest whole =
    let same : with_said mid h.0 ≡ with_said old (a ++ h.0) = ap (λ (s : StoreModel). with_said s h.0) is
    ∙ saying-saying old a h.0 in (
      a ++ h.0,
      h.1 ++ rest,
      whole ∙ ap (λ (t : List ℕ). a ++ (t ++ rest)) h.2
          ∙ ap (λ (t : List ℕ). a ++ t) (append_assoc h.0 h.1 rest) ∙ sym (append_assoc a h.0 (h.1 ++ rest)),
      subst (λ (s : StoreModel). SayingRefused s new e) same h.3,
    )

-- the first piece was refused
pub says_none : (T : Type 0) (old : StoreModel) (b rest : List ℕ) (new : StoreModel) (e : PutError)
    → Says {T = T} old b new (Err e) → Says {T = T} old (b ++ rest) new (Err e)
says_none T old b rest new e h = (h.0, h.1 ++ rest, rw (h.2, append_assoc h.0 h.1 rest) refl, h.3)

-- the texts before a place, at it and behind it
pub flat_map_at : {A B : Type 0} (f : A → List B) (xs : List A) (i : ℕ) (d : A) → i < length xs
    → flat_map f xs ≡ flat_map f (take i xs) ++ (f (get_or xs i d) ++ flat_map f (drop (i + 1) xs))
flat_map_at f [] i d lt = absurd (omega arith)
flat_map_at f (x ∷ xs) zero d lt = refl
flat_map_at f (x ∷ xs) (suc i) d lt =
    rw add-one (ap (λ t. f x ++ t) (flat_map_at f xs i d (omega arith)
    ∙ ap (λ k. flat_map f (take i xs) ++ (f (get_or xs i d) ++ flat_map f (drop k xs))) (add-one i))
    ∙ sym (append_assoc (f x) (flat_map f (take i xs)) (f (get_or xs i d) ++ flat_map f (drop (suc i) xs))))
