-- Which words a pixel may hold after a journal, whatever the threads of the clients wrote
-- meanwhile. Pixels count from 0, row by row from the top.
use Rattle.std.specs.Prelude.{◌≡◌, ℕ, ◌+◌, ◌<◌, Bool, true, false, List, [], ◌∷◌, ◌++◌, length}
use Rattle.std.specs.Prelude.{drop, take}
use Rattle.nit_hall.specs.Below.{Bare, Black, Call, Configuration, Entry, InputLine, IsOpen, Line}
use Rattle.nit_hall.specs.Below.{PixelSource, Reply, Word, after, bare_word, calls_in, calls_of}
use Rattle.nit_hall.specs.Below.{calls_to_make, dirty, donation_of, frame, next_phase, pixel}
use Rattle.nit_hall.specs.Below.{pixel_count, replay, scenery_of, script_in, slice_index}
use Rattle.nit_hall.specs.Below.{slice_index_or, source_at, user_actions_of, user_actions_to_do}
use Rattle.nit_hall.specs.Below.{words_after}
use Rattle.nit_events.specs.declared.entry.Entry.TheVariants as entry
use Rattle.nit_hall.specs.ServedLines.{lines_to_call, phases_before}

-- ---- which entry made a pixel dirty last

-- the entry after this front of a journal makes the pixel dirty
abbrev pub is_dirtied : Configuration → List Entry → Entry → ℕ → Bool
is_dirtied config front e k =
    let s = replay config front in dirty s e (after s e) (pixel s.config.width k)

-- Of the journal's entries that make the pixel dirty this is the last. These stand in front of it,
-- and those after it.
pub record IsLastDirtied (config : Configuration) (journal : List Entry) (k : ℕ)
    (front : List Entry) (e : Entry) (rest : List Entry) : Type 0 where
  pub split : journal ≡ front ++ e ∷ rest
  pub dirty_here : is_dirtied config front e k ≡ true
  pub clean_behind : (between : List Entry) (f : Entry) (more : List Entry)
      → rest ≡ between ++ f ∷ more → is_dirtied config (front ++ e ∷ between) f k ≡ false

-- ---- the words

-- how many lines of its script a session has done with the call that it makes next after this
-- front
abbrev pub lines_at_call : List (List Line) → ℕ → List Entry → ℕ
lines_at_call scripts t front =
    lines_to_call (length (calls_of t front) + 1) (script_in scripts t)

-- the words that a session's script has left in its table at that call
abbrev pub words_at_call : Configuration → List (List Line) → ℕ → List Entry → List ℕ
words_at_call config scripts t front =
    words_after (script_in scripts t) (donation_of config t) (lines_at_call scripts t front)

-- after some number of its lines a session's script has left w at place i of its table
abbrev pub IsLeftAt : Configuration → List (List Line) → ℕ → ℕ → ℕ → Type 0
IsLeftAt config scripts t i w =
    (n : ℕ) × (w ≡ slice_index (words_after (script_in scripts t) (donation_of config t) n) i)

-- the phase in which an entry is put after this front of a journal: that of the session's next
-- call in its script, or that of the next device event or shot in the input script
abbrev pub phase_of_entry : List (List Line) → List InputLine → List Entry → Entry → ℕ
phase_of_entry scripts input front (entry.Call t call r) =
    next_phase (drop (length (calls_of t front)) (calls_to_make (script_in scripts t)))
phase_of_entry scripts input front other =
    next_phase (drop (length (user_actions_of front)) (user_actions_to_do input))

-- A session may have done n lines of its script when the last of these entries was put, in this
-- phase: just so many of them are calls as it has made; and as long as there is no last picture,
-- they end just the phases before this one. A line that ends a phase sets no word, so this serves a
-- session that has ended this phase too.
pub record MayHaveDone (scripts : List (List Line)) (phase t : ℕ) (entries : List Entry) (n : ℕ)
    : Type 0 where
  pub calls : length (calls_in (take n (script_in scripts t))) ≡ length (calls_of t entries)
  pub phases : IsOpen entries → phases_before (script_in scripts t) n ≡ phase

-- The session's script has left w at place i of its table after a number of lines that it may have
-- done when the last entry was put that made the pixel dirty. That entry is `last`, and these stand
-- in front of it and after it.
pub record IsLeftThen (config : Configuration) (scripts : List (List Line)) (input : List InputLine)
    (journal : List Entry) (k t i w : ℕ) : Type 0 where
  pub front : List Entry
  pub last : Entry
  pub rest : List Entry
  pub is_last : IsLastDirtied config journal k front last rest
  pub lines : ℕ
  pub done : MayHaveDone scripts (phase_of_entry scripts input front last) t (front ++ last ∷ [])
      lines
  pub word : w ≡ slice_index (words_after (script_in scripts t) (donation_of config t) lines) i

-- A pixel that shows the word at i of a session's table holds one that the session's script had
-- left there when the pixel was last made dirty. Where the entry that did it is a call of that
-- session, it holds the very word that the script had left there at that call.
pub record IsNearWord (config : Configuration) (scripts : List (List Line)) (input : List InputLine)
    (journal : List Entry) (k t i w : ℕ) : Type 0 where
  pub left : IsLeftThen config scripts input journal k t i w
  pub exact : (front : List Entry) (call : Call) (r : Reply) (rest : List Entry)
      → IsLastDirtied config journal k front (entry.Call t call r) rest
      → w ≡ slice_index (words_at_call config scripts t front) i

-- a pixel of this source may hold w
abbrev pub IsNearBy : Configuration → List (List Line) → List InputLine → List Entry → ℕ
    → PixelSource → ℕ → Type 0
IsNearBy config scripts input journal k Bare w = w ≡ bare_word
IsNearBy config scripts input journal k Black w = w ≡ 0
IsNearBy config scripts input journal k (Word t i) w =
    IsNearWord config scripts input journal k t i w

-- after this journal the pixel of number k may hold w
abbrev pub IsNear : Configuration → List (List Line) → List InputLine → List Entry → ℕ → ℕ
    → Type 0
IsNear config scripts input journal k w =
    IsNearBy config scripts input journal k (source_at (replay config journal) k) w

-- each pixel holds a word that it may hold
abbrev pub AreNear : Configuration → List (List Line) → List InputLine → List Entry → List ℕ
    → Type 0
AreNear config scripts input journal raw =
    (k : ℕ) → k < pixel_count (replay config journal)
    → IsNear config scripts input journal k (slice_index_or raw k 0)

-- the words are the frame of the state that this journal leads to, by words that its pixels may
-- hold
abbrev pub IsNearFrame : Configuration → List (List Line) → List InputLine → List Entry → List ℕ
    → Type 0
IsNearFrame config scripts input journal words =
    (raw : List ℕ) × AreNear config scripts input journal raw
    × (words ≡ frame (scenery_of (replay config journal)) raw)

-- ---- what the scripts alone say of a word

-- a pixel of this source may hold w by the scripts alone
abbrev pub IsWordOfScripts : Configuration → List (List Line) → PixelSource → ℕ → Type 0
IsWordOfScripts config scripts Bare w = w ≡ bare_word
IsWordOfScripts config scripts Black w = w ≡ 0
IsWordOfScripts config scripts (Word t i) w = IsLeftAt config scripts t i w
