-- Readers' ends, and what each pixel may hold, after one more entry.
use Rattle.nit_hall.proofs.Basics.{AreNear, Bare, Black, Call, Colours, Configuration, End, Entry}
use Rattle.nit_hall.proofs.Basics.{EntryLaws, InputLine, IsLegal, IsLoaded, IsNearBy, IsOpen}
use Rattle.nit_hall.proofs.Basics.{IsWordOfScripts, IsWordOfSource, KnowsStretch, Line}
use Rattle.nit_hall.proofs.Basics.{MayHaveDone, None, PixelSource, Point, Reply, Sight, Size}
use Rattle.nit_hall.proofs.Basics.{Standing, State, View, Word, after, among}
use Rattle.nit_hall.proofs.Basics.{black_or_word, buffer_place, buffer_size}
use Rattle.nit_hall.proofs.Basics.{buffers_of, calls_of, calls_of-append, cases_Bool, cases_lt}
use Rattle.nit_hall.proofs.Basics.{common_steps, donation_of, first_session, first_state}
use Rattle.nit_hall.proofs.Basics.{get_or_from_slice_get, get_or_past, gets, glass_in, ink_in}
use Rattle.nit_hall.proofs.Basics.{is_dirtied, map-map, nat_tests, negsuc, no_sight}
use Rattle.nit_hall.proofs.Basics.{owner_of, phase_of_entry, pixel, pixel_count, pos, replay}
use Rattle.nit_hall.proofs.Basics.{same_Some, same_config, script_in, script_ink, shots}
use Rattle.nit_hall.proofs.Basics.{shown_index, slice_get-map, source_at, source_of, source_under}
use Rattle.nit_hall.proofs.Basics.{with_end_stages, with_stages}
use Rattle.nit_hall.proofs.Basics.{within_only, words_after, words_at_call, ℤ}
use Rattle.std.proofs.Common.{IfSome, List, Option, Some, [], ap, append-nil, arith, false, inl}
use Rattle.std.proofs.Common.{inr, length, map, refl, set, slice_get, slice_index}
use Rattle.std.proofs.Common.{slice_index_or, suc, sym, true, zero, ℕ, ◌++◌, ◌+◌, ◌<◌, ◌∙◌, ◌∷◌}
use Rattle.std.proofs.Common.{◌≡◌, ◌≢◌, ◌≤◌}
use Rattle.nit_events.specs.declared.entry.Entry.TheVariants as entry
use Rattle.nit_hall.proofs.EntryLemmas.{KeepsClean, last_before, last_is_last, last_more}
use Rattle.nit_hall.proofs.EntryLemmas.{one_more_last}
use Rattle.nit_hall.proofs.LineLemmas.{stretch_same}

-- the sights of ends, in order
abbrev pub sights_of : List End → List Sight
sights_of ends = map (λ (e : End). e.sight) ends

-- the sight of the end there
pub sight_at : (ends : List End) (sid : ℕ) (e : End) → slice_get ends sid ≡ Some e
    → glass_in (sights_of ends) sid ≡ e.sight
sight_at ends sid e at = get_or_from_slice_get (sights_of ends) sid e.sight no_sight (rw (slice_get-map, at))

-- the end that knows these stages; all else is as before
abbrev pub end_with : List (List ℕ) → End → End
end_with stages e = record e { sight = with_stages stages e.sight }

pub own_end : (sid : ℕ) (stages : List (List ℕ)) (ends : List End) → sid < length ends
    → glass_in (sights_of (with_end_stages sid stages ends)) sid ≡ with_stages stages (glass_in (sights_of ends) sid)
own_end sid stages [] inside = absurd (omega arith)
own_end zero stages (e ∷ rest) inside = refl
own_end (suc n) stages (e ∷ rest) inside = own_end n stages rest (omega arith)

pub other_end : (sid : ℕ) (stages : List (List ℕ)) (ends : List End) (t : ℕ) → t ≢ sid
    → glass_in (sights_of (with_end_stages sid stages ends)) t ≡ glass_in (sights_of ends) t
other_end (suc n) stages (e ∷ rest) (suc t) ne = other_end n stages rest t (λ same. ne (ap suc same))
other_end zero stages (e ∷ rest) zero ne = absurd (ne refl)
other_end sid stages ends t ne = refl

-- the ink stays everywhere
pub same_ink : (sid : ℕ) (stages : List (List ℕ)) (ends : List End) (t : ℕ)
    → (glass_in (sights_of (with_end_stages sid stages ends)) t).ink ≡ (glass_in (sights_of ends) t).ink
same_ink (suc n) stages (e ∷ rest) (suc t) = same_ink n stages rest t
same_ink zero stages (e ∷ rest) zero = refl
same_ink sid stages ends t = refl

-- the ends stand where they stood
pub same_stands : (sid : ℕ) (stages : List (List ℕ)) (ends : List End)
    → map (λ (e : End). e.stand) (with_end_stages sid stages ends) ≡ map (λ (e : End). e.stand) ends
same_stands (suc n) stages (e ∷ rest) = rw (same_stands n stages rest)
same_stands zero stages (e ∷ rest) = refl
same_stands sid stages [] = refl

-- ends that stand where others do are of the same buffers
pub same_buffers : (ends ends' : List End) → map (λ (e : End). e.stand) ends ≡ map (λ (e : End). e.stand) ends'
    → buffers_of ends ≡ buffers_of ends'
same_buffers ends ends' same = rw (map-map, map-map) at (ap (map (λ (s : Standing). s.buffer)) same)

-- the stages that are known last are known
pub stages_again : (sid : ℕ) (stages before : List (List ℕ)) (ends : List End)
    → with_end_stages sid stages (with_end_stages sid before ends) ≡ with_end_stages sid stages ends
stages_again (suc n) stages before (e ∷ rest) = rw (stages_again n stages before rest)
stages_again zero stages before (e ∷ rest) = refl
stages_again sid stages before [] = refl

-- an end that is taken out, comes to know the stages, and is put back
pub put_back : (sid : ℕ) (stages : List (List ℕ)) (ends : List End) (e spare : End) → slice_get ends sid ≡ Some e
    → set (set ends sid spare) sid (end_with stages e) ≡ with_end_stages sid stages ends
put_back sid stages [] e spare at = absurd cc
put_back zero stages (x ∷ rest) e spare at = rw (same_Some x e at)
put_back (suc n) stages (x ∷ rest) e spare at = rw (put_back n stages rest e spare at)

-- what is put there stands there
pub set_there : (ends : List End) (sid : ℕ) (e x : End) → slice_get ends sid ≡ Some e
    → slice_get (set ends sid x) sid ≡ Some x
set_there ends sid e x at = grind (arith, common_steps, gets)

-- ---- what glasses give

-- each glass has the ink of its session
abbrev pub AreInks : Configuration → List (List Line) → (ℕ → Sight) → Type 0
AreInks config scripts glasses = (t : ℕ) → (glasses t).ink ≡ ink_in config scripts t

pub ink_behind : (config : Configuration) (scripts : List (List Line)) (t : ℕ) → length scripts ≤ t
    → Colours [] ≡ ink_in config scripts t
ink_behind config scripts t past = grind (arith, nat_tests)

pub all_inks : (config : Configuration) (scripts : List (List Line)) (glasses : List Sight)
    → length glasses ≡ length scripts
    → ((t : ℕ) → t < length scripts
    → (glass_in glasses t).ink ≡ script_ink (script_in scripts t) (donation_of config t))
    → AreInks config scripts (glass_in glasses)
all_inks config scripts glasses long inked t = grind (arith, nat_tests, get_or_past, ink_behind)

-- what was loaded was left by lines that the session may have done after these entries
abbrev pub WasLeft : Configuration → List (List Line) → ℕ → ℕ → List Entry → ℕ → ℕ → Type 0
WasLeft config scripts ended t entries i w = (n : ℕ) × MayHaveDone scripts ended t entries n
    × (w ≡ slice_index (words_after (script_in scripts t) (donation_of config t) n) i)

-- what is loaded through a session's glass after the next entry was left by lines that it may have done
abbrev pub ShowsThen : Configuration → List (List Line) → ℕ → List Entry → Entry → (ℕ → Sight) → Type 0
ShowsThen config scripts ended journal e glasses = (t : ℕ) → t < length scripts
    → (i w : ℕ) → IsLoaded (glasses t) i w → WasLeft config scripts ended t (journal ++ e ∷ []) i w

-- where the entry is a call, the caller's glass tells the words of its script
abbrev pub TellsWords : Configuration → List (List Line) → List Entry → Entry → (ℕ → Sight) → Type 0
TellsWords config scripts journal e glasses = (t : ℕ) (call : Call) (r : Reply) → entry.Call t call r ≡ e
    → (glasses t).words ≡ Some (words_at_call config scripts t journal)

pub told_word : (o : Option (List ℕ)) (words : List ℕ) (i w : ℕ) → o ≡ Some words
    → IfSome o (λ ws. w ≡ slice_index ws i) → w ≡ slice_index words i
told_word o words i w is told = rw is at told

-- the phase that is served is that of the entry, as long as there is no last picture
abbrev pub IsInPhase : List (List Line) → List InputLine → ℕ → List Entry → Entry → Type 0
IsInPhase scripts input phase journal e = IsOpen (journal ++ e ∷ []) → phase_of_entry scripts input journal e ≡ phase

-- ---- one more entry

module _ (config : Configuration) (scripts : List (List Line)) (input : List InputLine) (journal : List Entry)
    (e : Entry) where
  -- a pixel that the next entry leaves clean may hold what it might before
  near_still : (k : ℕ) (source : PixelSource) (w : ℕ) → is_dirtied config journal e k ≡ false
      → IsNearBy config scripts input journal k source w → IsNearBy config scripts input (journal ++ e ∷ []) k source w
  near_still k (Word t i) w clean near = record {
    left = let l = near.left in record {
      front = l.front;
      last = l.last;
      rest = l.rest ++ e ∷ [];
      is_last = last_more config journal e k l.front l.last l.rest clean l.is_last;
      lines = l.lines;
      done = l.done;
      word = l.word;
    };
    exact = λ front call r rest last.
        let before = last_before config journal e k front (entry.Call t call r) rest clean last in
        near.exact front call r before.0 before.1;
  }
  near_still k Bare w clean near = near
  near_still k Black w clean near = near

  -- what the glasses give a pixel that the next entry makes dirty is a word that it may hold then
  pub held_near : (phase : ℕ) (glasses : ℕ → Sight) (k : ℕ) (source : PixelSource) (w : ℕ)
      → is_dirtied config journal e k ≡ true → IsInPhase scripts input phase journal e
      → ShowsThen config scripts phase journal e glasses → TellsWords config scripts journal e glasses
      → ((t i : ℕ) → source ≡ Word t i → t < length scripts)
      → IsWordOfSource glasses source w → IsNearBy config scripts input (journal ++ e ∷ []) k source w
  held_near phase glasses k (Word t i) w is served_ shows tells there held = record {
    left = let n = shows t (there t i refl) i w held in record {
      front = journal;
      last = e;
      rest = [];
      is_last = one_more_last config journal e k is;
      lines = n.0;
      done = record { calls = n.1.calls; phases = λ still. n.1.phases still ∙ sym (served_ still) };
      word = n.2;
    };
    exact = λ front call r rest last.
        let at = last_is_last config journal e k front (entry.Call t call r) rest is last in
        told_word (glasses t).words _ i w (rw at.0 (tells t call r at.1)) held.told;
  }
  held_near phase glasses k Bare w is served_ shows tells there held = held
  held_near phase glasses k Black w is served_ shows tells there held = held

  pub near_more : EntryLaws → (raw raw' : List ℕ) → IsLegal config (journal ++ e ∷ [])
      → AreNear config scripts input journal raw
      → ((k : ℕ) → k < pixel_count (replay config journal) → is_dirtied config journal e k ≡ true
      → IsNearBy config scripts input (journal ++ e ∷ []) k (source_at (after (replay config journal) e) k)
      (slice_index_or raw' k 0))
      → KeepsClean config journal e raw raw' → AreNear config scripts input (journal ++ e ∷ []) raw'
  near_more laws raw raw' legal near loaded others k on_screen =
      let s : State = replay config journal in
      let now : replay config (journal ++ e ∷ []) ≡ after s e = laws.more (first_state config) journal e in
      let inside : k < pixel_count s = rw (now, same_config s e) at on_screen in
      elim (cases_Bool (is_dirtied config journal e k)) [
        | inl is ↦ rw now (loaded k inside is)
        | inr clean ↦
            let at : source_at (replay config (journal ++ e ∷ [])) k ≡ source_of (after s e) (pixel s.config.width k) =
            rw (now, same_config s e) in
            let agrees = laws.agrees (first_state config) 0 journal e legal in
            let kept = laws.keeps s (0 + shots journal) e (pixel s.config.width k) agrees clean in
            rw (at, kept, others k clean) (near_still k _ _ clean (near k inside))
      ]

-- ---- what the scripts alone say of it

pub near_word : (config : Configuration) (scripts : List (List Line)) (input : List InputLine) (journal : List Entry)
    (k : ℕ) (source : PixelSource) (w : ℕ) → IsNearBy config scripts input journal k source w
    → IsWordOfScripts config scripts source w
near_word config scripts input journal k (Word t i) w near = (near.left.lines, near.left.word)
near_word config scripts input journal k Bare w near = near
near_word config scripts input journal k Black w near = near

-- ---- a session that there is not has no buffer

among_none : (z : ℤ) → among z 0 ≡ None
among_none (pos n) = grind (arith, nat_tests)
among_none (negsuc n) = refl

word_is : (session : ℕ) (o : Option ℕ) (t i : ℕ) → black_or_word session o ≡ Word t i → (session ≡ t) × (o ≡ Some i)
word_is session None t i is = absurd cc
word_is session (Some index) t i is = (cc, cc)

no_word : (sizes : ℕ → Size) (p : Point) (o : Option View) (t i : ℕ) → (sizes t).w ≡ 0
    → source_under sizes p o ≡ Word t i → ⊥
no_word sizes p None t i none is = absurd cc
no_word sizes p (Some v) t i none is =
    let owned = word_is v.sid (shown_index (sizes v.sid) v p) t i is in
    let nowhere : shown_index (sizes v.sid) v p ≡ None =
    rw (owned.0, none, among_none (buffer_place p.x v.rect.x v.ox)) in
    absurd (cc (nowhere, owned.1))

-- where a word comes from a session, that session is there
pub word_session : (s : State) (p : Point) (t i : ℕ) → source_of s p ≡ Word t i → t < length s.sessions
word_session s p t i is = elim (cases_lt t (length s.sessions)) [
  | inl inside ↦ inside
  | inr past ↦
      let none : (buffer_size s.sessions t).w ≡ 0 =
      rw (get_or_past s.sessions t (first_session 0) past) in
      absurd (no_word (buffer_size s.sessions) p (owner_of s p) t i none is)
]

-- ---- what is shown of a session after the next entry

-- through the reader's end of a session, after an entry that is no call of it
pub lens_shows : (config : Configuration) (scripts : List (List Line)) (ended : ℕ) (entries : List Entry) (e : Entry)
    (t : ℕ) (g : Sight)
    → KnowsStretch (script_in scripts t) (donation_of config t) (length (calls_of t entries)) ended g
    → calls_of t (e ∷ []) ≡ [] → (i w : ℕ) → IsLoaded g i w → WasLeft config scripts ended t (entries ++ e ∷ []) i w
lens_shows config scripts ended entries e t g known none i w loaded =
    let script = script_in scripts t in
    let n = within_only script (donation_of config t) known.since known.until i w
    (rw known.stages_are at loaded.stage) in
    let same = stretch_same script known.since n.0 n.1 (omega (arith, n.2, known.strokes)) in (
      n.0,
      record {
        calls = rw (calls_of-append t entries (e ∷ []), none, append-nil, same.0) known.made_before;
        phases = λ still_open. same.1 ∙ known.in_phase;
      },
      n.3,
    )

-- through a glass that tells what so many lines have left
pub told_shows : (config : Configuration) (scripts : List (List Line)) (ended : ℕ) (entries : List Entry) (t n : ℕ)
    (g : Sight) → g.words ≡ Some (words_after (script_in scripts t) (donation_of config t) n)
    → MayHaveDone scripts ended t entries n → (i w : ℕ) → IsLoaded g i w → WasLeft config scripts ended t entries i w
told_shows config scripts ended entries t n g told may i w loaded = (n, may, told_word g.words _ i w told loaded.told)
