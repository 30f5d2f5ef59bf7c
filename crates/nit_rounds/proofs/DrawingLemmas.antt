-- What is drawn, move by move, that a scene holds it, and frames that are shown one after the other.
use Rattle.nit_rounds.proofs.Basics.{ActorLine, AreBehind, AreLoaded, Bool, BufferArea, ByClient}
use Rattle.nit_rounds.proofs.Basics.{ByUser, Configuration, Drawing, Entry, Fill, InputLine}
use Rattle.nit_rounds.proofs.Basics.{IsBehind, IsBehindBy, IsButFor, IsDrawn, IsLoaded, IsMoved}
use Rattle.nit_rounds.proofs.Basics.{IsWordOfSource, Line, LineTurn, List, None, Option}
use Rattle.nit_rounds.proofs.Basics.{PixelSource, PutState, PutsAll, PutsNext, SceneModel}
use Rattle.nit_rounds.proofs.Basics.{ShotFrame, ShowsEach, ShowsLine, Sight, Some, Stale, State}
use Rattle.nit_rounds.proofs.Basics.{Stroke, Word, [], above, add-zero, after_turn, alike}
use Rattle.nit_rounds.proofs.Basics.{before_row, changed, donation_of, done_after, drawn_shot}
use Rattle.nit_rounds.proofs.Basics.{entry_of, ext_get_or, false, fold-append, for_any}
use Rattle.nit_rounds.proofs.Basics.{get_or-map-range_with_len, get_or-set_same, get_or_past}
use Rattle.nit_rounds.proofs.Basics.{glass_after, glass_in, is_between, is_number_in, length}
use Rattle.nit_rounds.proofs.Basics.{length-set, line_by, map, nat_tests, next_shot, no_ink}
use Rattle.nit_rounds.proofs.Basics.{no_sight, none_begun, opening_drawing, pixel_count, refl}
use Rattle.nit_rounds.proofs.Basics.{row_added, rows_done, same_config, same_frame, same_set}
use Rattle.nit_rounds.proofs.Basics.{script_in, set, set-get_or, set-set, set_long, set_where}
use Rattle.nit_rounds.proofs.Basics.{shot_file, shots, shots_after, slice_index, slice_index_or}
use Rattle.nit_rounds.proofs.Basics.{state_after, state_now, subst, sym, table_size, tables_after}
use Rattle.nit_rounds.proofs.Basics.{told_at, unchanged, with_words, word_after_entry, word_at}
use Rattle.nit_rounds.proofs.Basics.{word_from, words_after, zero, zero_at, zeros, ℕ}
use Rattle.std.proofs.Common.{ap, arith, suc, true, ◌%◌, ◌*◌, ◌++◌, ◌+◌, ◌/◌, ◌<◌, ◌∙◌, ◌∷◌, ◌≡◌}
use Rattle.std.proofs.Common.{◌≤◌}
use Rattle.nit_rounds.specs.Drawing.{drawn}
use Rattle.nit_plan.proofs.ForCallers.{whole}
use Rattle.nit_script.specs.declared.line.InputLine.TheVariants as input

-- ---- words

-- what is loaded from each glass is the word of its session's table
abbrev pub AreOf : (ℕ → Sight) → (ℕ → List ℕ) → Type 0
AreOf glasses tables = (t i w : ℕ) → IsLoaded (glasses t) i w → w ≡ slice_index (tables t) i

pub held_word : (glasses : ℕ → Sight) (tables : ℕ → List ℕ) (source : PixelSource) (w : ℕ) → AreOf glasses tables
    → IsWordOfSource glasses source w → w ≡ word_from tables source
held_word glasses tables (Word t i) w are held = are t i w held
held_word glasses tables other w are held = held

no_lines : (donation k : ℕ) → words_after [] donation k ≡ zeros (table_size donation)
no_lines donation zero = refl
no_lines donation (suc k) = refl

-- each glass tells the words that so many lines of its script leave
abbrev pub TellDone : Configuration → List (List Line) → List Sight → (ℕ → ℕ) → Type 0
TellDone config scripts owns done = (t : ℕ) → t < length scripts
    → glass_in owns t ≡ glass_after t (script_in scripts t) (donation_of config t) (done t)

-- then each word is of these
pub tables_told : (config : Configuration) (scripts : List (List Line)) (owns : List Sight) (done : ℕ → ℕ)
    → length owns ≡ length scripts → TellDone config scripts owns done
    → AreOf (glass_in owns) (tables_after config scripts done)
tables_told config scripts owns done each tell t i w loaded =
    grind (arith, nat_tests, get_or_past, no_ink, zero_at, no_lines)

-- one frame more
pub shows_more : {V : Type 0} (Shows : ShotFrame → V → V → Type 0) (front : List ShotFrame) (f : ShotFrame)
    (old mid new : V) → ShowsEach Shows front old mid → Shows f mid new → ShowsEach Shows (front ++ f ∷ []) old new
shows_more {V = V} Shows [] f old mid new same more = (new, rw same at more, refl)
shows_more Shows (g ∷ front) f old mid new (next, first, rest) more =
    (next, first, shows_more Shows front f next mid new rest more)

-- what each frame leaves as it is, all leave as it is
pub stays_throughout : {V X : Type 0} (Shows : ShotFrame → V → V → Type 0) (part : V → X) (frames : List ShotFrame)
    (old new : V) → ((f : ShotFrame) (before after' : V) → Shows f before after' → part after' ≡ part before)
    → ShowsEach Shows frames old new → part new ≡ part old
stays_throughout Shows part [] old new stays shown = ap part shown
stays_throughout Shows part (f ∷ frames) old new stays (mid, first, rest) =
    stays_throughout Shows part frames mid new stays rest ∙ stays f old mid first

-- where each frame is put as its picture, all are
pub put_as_pictures : {V : Type 0} (Shows : ShotFrame → V → V → Type 0) (put : V → PutState) (frames : List ShotFrame)
    (old new : V) → ((f : ShotFrame) (before after' : V) → Shows f before after'
    → PutsNext (shot_file f) (put before) (put after')) → ShowsEach Shows frames old new
    → PutsAll (map shot_file frames) (put old) (put new)
put_as_pictures Shows put [] old new puts shown = ap put shown
put_as_pictures Shows put (f ∷ frames) old new puts (mid, first, rest) =
    (put mid, puts f old mid first, put_as_pictures Shows put frames mid new puts rest)

-- ---- the drawing

pub none_drawn : (config : Configuration) (scripts : List (List Line))
    → drawn config scripts [] ≡ opening_drawing config
unfolding drawn
none_drawn config scripts = refl

pub drawn_more : (config : Configuration) (scripts : List (List Line)) (front : List LineTurn) (m : LineTurn)
    → drawn config scripts (front ++ m ∷ []) ≡ after_turn config scripts (drawn config scripts front) m
unfolding drawn
drawn_more config scripts front m = fold-append (after_turn config scripts) (opening_drawing config) front (m ∷ [])

-- a client has done as many lines more as the line is its own
pub done_more : (d : ActorLine) (done : ℕ → ℕ) (t : ℕ) → done_after d done t ≡ done t + length (line_by t d)
done_more (ByClient sid l) done t = grind arith
done_more (ByUser l) done t = sym (add-zero (done t))

-- ---- the words

-- pixels that were loaded again hold the words that are drawn
words_more : (s : State) (e : Option Entry) (glasses : ℕ → Sight) (tables : ℕ → List ℕ) (raw raw' : List ℕ)
    (word : ℕ → ℕ) → AreLoaded s e glasses raw raw' → AreOf glasses tables
    → ((k : ℕ) → k < pixel_count s → slice_index_or raw k 0 ≡ word k) → (k : ℕ) → k < pixel_count (state_after s e)
    → slice_index_or raw' k 0 ≡ word_after_entry tables s e word k
words_more s None glasses tables raw raw' word loaded are held k on_screen = rw (loaded, held k on_screen)
words_more s (Some e) glasses tables raw raw' word loaded are held k on_screen =
    grind (arith, nat_tests, same_config, held_word)

-- a scene that holds what is drawn holds it after one more move
pub moved_on : (config : Configuration) (scripts : List (List Line)) (d : Drawing) (m : LineTurn)
    (s s' : SceneModel Sight) → IsDrawn d s → IsMoved (entry_of (state_now s) m.doing) s s'
    → AreOf (glass_in s'.glasses) (tables_after config scripts (done_after m.doing d.done))
    → length (shots_after config m.doing d) ≡ shots s'.entries → IsDrawn (after_turn config scripts d m) s'
moved_on config scripts d m s s' is moved are taken = grind (arith, nat_tests, words_more)

-- ---- the shots

-- the frame of a scene that holds what is drawn
shot_is : (config : Configuration) (d : Drawing) (s : SceneModel Sight) → s.config ≡ config → IsDrawn d s
    → next_shot s ≡ drawn_shot config d
shot_is config d s same is = grind (arith, nat_tests, get_or-map-range_with_len, same_frame)

-- what the user's line shows is what it draws
pub shows_drawn : {V : Type 0} (Shows : ShotFrame → V → V → Type 0) (config : Configuration) (d : Drawing)
    (s : SceneModel Sight) (l : InputLine) (first old new : V) → s.config ≡ config → IsDrawn d s
    → ShowsEach Shows d.shots first old → ShowsLine Shows l s old new
    → ShowsEach Shows (shots_after config (ByUser l) d) first new
shows_drawn Shows config d s input.Shot first old new same is shown more = grind (arith, nat_tests, shot_is, shows_more)
shows_drawn Shows config d s other first old new same is shown more = rw (← more) at shown

-- A scene's glass that is behind the own one of its session, and how it is brought on: words of an area become those of
-- the own one.

-- ---- words

-- the area as a stroke
abbrev as_stroke : BufferArea → Stroke
as_stroke a = Fill a.x a.y a.w a.h 0

-- the scene with this glass for a session
abbrev pub with_glass_of : SceneModel Sight → ℕ → Sight → SceneModel Sight
with_glass_of s sid g = record s { glasses = set s.glasses sid g }

-- that scene, where the session's glass has other words
abbrev pub IsWithWords : SceneModel Sight → SceneModel Sight → ℕ → (List ℕ → List ℕ) → Type 0
IsWithWords s now sid f = now ≡ with_glass_of s sid (with_words f (glass_in s.glasses sid))

-- the session's glass of that scene
pub glass_there : (s now : SceneModel Sight) (sid : ℕ) (g : Sight) → now ≡ with_glass_of s sid g
    → sid < length s.glasses → glass_in now.glasses sid ≡ g
glass_there s now sid g is inside = rw (is, get_or-set_same s.glasses sid g no_sight inside)

module _ (w : ℕ) (a : BufferArea) (c : ℕ → ℕ) where
  -- the words of the rows above one become these
  abbrev pub rows_to : ℕ → List ℕ → List ℕ
  rows_to j words = set_where (above w (a.y + a.h) (as_stroke a) j) c words

  -- those of a row of the area do
  abbrev row_to : ℕ → List ℕ → List ℕ
  row_to j words = set_where (is_between (j * w + a.x) (j * w + a.x + a.w)) c words

  -- those of the area do
  abbrev area_to : List ℕ → List ℕ
  area_to words = set_where (is_number_in w a) c words

  next_row : (j : ℕ) (words : List ℕ) → a.x + a.w ≤ w → a.y ≤ j → j < a.y + a.h
      → row_to j (rows_to j words) ≡ rows_to (j + 1) words
  next_row j words columns from below =
      ap (λ (right : ℕ). set_where (is_between (j * w + a.x) right) c (rows_to j words)) (omega arith)
      ∙ row_added w (a.y + a.h) (as_stroke a) a.x a.y a.w a.h j c words (λ k l. refl) from below below

  in_area : (n : ℕ) → a.x + a.w ≤ w → is_number_in w a n ≡ true → n < w * (a.y + a.h)
  in_area n columns is =
      let across : n % w < a.x + a.w = grind (arith, nat_tests) in
      let down : n / w < a.y + a.h = grind (arith, nat_tests) in
      omega (arith, before_row n w (a.y + a.h) (omega arith) down)

  all_rows : (j : ℕ) (words : List ℕ) → a.x + a.w ≤ w → a.y + a.h ≤ j → rows_to j words ≡ area_to words
  all_rows j words columns done =
      rows_done w (a.y + a.h) (as_stroke a) a.x a.y a.w a.h j c words (λ k l. refl) (omega arith)
      ∙ same_set (whole w (a.y + a.h) (as_stroke a)) (is_number_in w a) c words
      (λ n. grind (arith, nat_tests, in_area n columns))

  -- ---- the scene's glass

  pub begun : (s : SceneModel Sight) (sid : ℕ) → IsWithWords s s sid (rows_to a.y)
  begun s sid =
      let g = glass_in s.glasses sid in
      let none = for_any (λ words. words ≡ rows_to a.y words) g.words
      (λ words. none_begun w (a.y + a.h) (as_stroke a) a.x a.y a.w a.h c words (λ i j. refl)) in
      rw (sym (unchanged (rows_to a.y) g none), set-get_or s.glasses sid no_sight)

  pub row_drawn : (s now later : SceneModel Sight) (sid j : ℕ) → sid < length s.glasses → a.x + a.w ≤ w → a.y ≤ j
      → j < a.y + a.h → IsWithWords s now sid (rows_to j) → IsWithWords now later sid (row_to j)
      → IsWithWords s later sid (rows_to (j + 1))
  row_drawn s now later sid j within columns from below was drew =
      let g = glass_in s.glasses sid in
      let before : Sight = with_words (rows_to j) g in
      let after : Sight = with_words (rows_to (j + 1)) g in
      let both : with_words (row_to j) before ≡ after =
      changed (rows_to j) (row_to j) (rows_to (j + 1)) g before (with_words (row_to j) before)
      (for_any (λ words. row_to j (rows_to j words) ≡ rows_to (j + 1) words) g.words
      (λ words. next_row j words columns from below)) refl refl in
      rw (drew, glass_there s now sid before was within, both, was, set-set s.glasses sid before after)

  pub all_drawn : (s now : SceneModel Sight) (sid j : ℕ) → a.x + a.w ≤ w → a.y + a.h ≤ j
      → IsWithWords s now sid (rows_to j) → IsWithWords s now sid area_to
  all_drawn s now sid j columns done was = grind (arith, nat_tests, for_any, all_rows, alike)

-- ---- words

-- equal glasses
pub but_none : (there own : Sight) (words : List ℕ) → there ≡ own → own.words ≡ Some words
    → IsButFor (λ n. false) there own
but_none there own words same told =
    record {
      old = words;
      now = words;
      is = rw (same, told);
      told = told;
      long = refl;
      same = λ n _. refl;
    }

-- ---- copies

word_copied : (p : ℕ → Bool) (now old : List ℕ) (n : ℕ) → length now ≡ length old
    → (p n ≡ false → slice_index now n ≡ slice_index old n)
    → slice_index now n ≡ slice_index (set_where p (slice_index now) old) n
word_copied p now old n long same =
    let copied : List ℕ = set_where p (slice_index now) old in
    let none = get_or_past copied n 0 in
    grind (arith, word_at p (slice_index now) old n, same, get_or_past now n 0, none, set_long p (slice_index now) old)

-- the words of some places were copied, so those of the others that differed still may
pub copied_first : (p q chosen : ℕ → Bool) (there own there' : Sight) → IsButFor chosen there own
    → ((n : ℕ) → p n ≡ false → q n ≡ false → chosen n ≡ false)
    → there' ≡ with_words (set_where p (told_at own)) there → IsButFor q there' own
copied_first p q chosen there own there' b both is =
    let tells : told_at own ≡ slice_index b.now = rw b.told in
    record {
      old = set_where p (slice_index b.now) b.old;
      now = b.now;
      is = cc (is, b.is, tells);
      told = b.told;
      long = b.long ∙ sym (set_long p (slice_index b.now) b.old);
      same = λ n not. word_copied p b.now b.old n b.long (λ not_first. b.same n (both n not_first not));
    }

-- all words that differ were copied
pub copied_all : (p : ℕ → Bool) (there own : Sight) → IsButFor p there own
    → with_words (set_where p (told_at own)) there ≡ own
copied_all p there own b =
    let all = copied_first p (λ n. false) p there own _ b (λ n is _. is) refl in
    rw (all.is, ext_get_or 0 all.old all.now (sym all.long) (λ k inside. sym (all.same k refl)), ← all.told)

-- ---- the scene's glasses

-- what is stale was copied
pub settles : (s s' : SceneModel Sight) (owns : List Sight) (a : Stale) (own : Sight) → own ≡ glass_in owns a.sid
    → AreBehind (Some a) s.glasses owns
    → IsWithWords s s' a.sid (set_where (is_number_in a.w a.area) (told_at own)) → s' ≡ record s { glasses = owns }
settles s s' owns a own is behind copied = grind (arith, nat_tests, copied_all)

-- the glasses after a turn of a session, with its own one
pub all_own : (glasses glasses' owns owns' : List Sight) (sid : ℕ) (there own : Sight)
    → set glasses sid (glass_in owns sid) ≡ owns → glasses' ≡ set glasses sid there → owns' ≡ set owns sid own
    → set glasses' sid own ≡ owns'
all_own glasses glasses' owns owns' sid there own others gs os = grind (arith, nat_tests, set-set)

-- the scene has a glass for each own one
pub as_many : (glasses owns : List Sight) (sid : ℕ) (g : Sight) → set glasses sid g ≡ owns → sid < length owns
    → sid < length glasses
as_many glasses owns sid g others inside = grind (arith, nat_tests, length-set)

-- what is stale after a turn of a session is of it
pub behind_again : (stale : Option Stale) (glasses glasses' owns owns' : List Sight) (sid : ℕ) (there own : Sight)
    → sid < length owns
    → set glasses sid (glass_in owns sid) ≡ owns → glasses' ≡ set glasses sid there → owns' ≡ set owns sid own
    → IsBehind stale sid there own → AreBehind stale glasses' owns'
behind_again None glasses glasses' owns owns' sid there own inside others gs os b =
    rw (gs, b, ← set-set glasses sid (glass_in owns sid) own, others, ← os)
behind_again (Some a) glasses glasses' owns owns' sid there own inside others gs os b =
    let in_glasses = as_many glasses owns sid (glass_in owns sid) others inside in
    let there_is : glass_in glasses' sid ≡ there = rw (gs, get_or-set_same glasses sid there no_sight in_glasses) in
    let own_is : glass_in owns' sid ≡ own = rw (os, get_or-set_same owns sid own no_sight inside) in
    subst (λ (t : ℕ). (t < length owns') × (set glasses' t (glass_in owns' t) ≡ owns')
    × IsBehindBy a t (glass_in glasses' t) (glass_in owns' t)) (sym b.of) (
      rw (os, length-set owns sid own) inside,
      rw own_is (all_own glasses glasses' owns owns' sid there own others gs os),
      rw (own_is, there_is) b,
    )
