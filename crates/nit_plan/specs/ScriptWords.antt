-- What a script alone says: its session, its colours, and the words that it leaves. The words do
-- not depend on what happens to the session in a run.
use Rattle.std.specs.Prelude.{ℕ, ◌+◌, ◌-◌, List, [], ◌∷◌, fold, map, take, if◌then◌else◌}
use Rattle.nit_plan.specs.Below.{Buffer, Call, Check, Fill, Ink, IsInked, Line, Reply, Session}
use Rattle.nit_plan.specs.Below.{Size, Stages, first_session, flat_map, is_accepted, range_with_len}
use Rattle.nit_plan.specs.Below.{serve, slice_index, zeros}
use Rattle.nit_script.specs.declared.line.Line.TheVariants as line
use Rattle.nit_plan.specs.Strokes.{stroked, cleared}
pub use Rattle.nit_slots.specs.Account.{table_size}

-- a session and the words of its table
pub record Painting : Type 0 where
  pub session : Session
  pub words : List ℕ

-- before the first line: the session is new, and all words are 0
abbrev pub blank : ℕ → Painting
blank donation = record { session = first_session donation; words = zeros (table_size donation) }

abbrev pub session_size : Session → Size
session_size s = record { w = s.bw; h = s.bh }

-- a `buffer` line that is accepted sets the words of the new buffer to 0 first; no other call sets
-- a word
abbrev pub words_after_call : Call → Reply → List ℕ → List ℕ
words_after_call (Buffer w h) r words = if is_accepted r then cleared w h words else words
words_after_call other r words = words

-- a line of a script, the session getting no item
abbrev pub after_line : Painting → Line → Painting
after_line p (line.Call c) =
    record {
      session = (serve p.session c).session;
      words = words_after_call c (serve p.session c).reply p.words;
    }
after_line p (line.Stroke s) = record p { words = stroked (session_size p.session) s p.words }
after_line p line.Phase = p

-- all lines of a list, from this painting on
abbrev pub painted_from : Painting → List Line → Painting
painted_from p lines = fold after_line p lines

-- the session and the words after the first k lines of a script
abbrev pub static : List Line → ℕ → ℕ → Session
static script donation k = (painted_from (blank donation) (take k script)).session

abbrev pub words_after : List Line → ℕ → ℕ → List ℕ
words_after script donation k = (painted_from (blank donation) (take k script)).words

-- the words that a whole script leaves
abbrev pub words_left : List Line → ℕ → List ℕ
words_left script donation = (painted_from (blank donation) script).words

-- the words of the table before the lines, and after each of them
abbrev pub stages_from : Painting → List Line → List (List ℕ)
stages_from p [] = p.words ∷ []
stages_from p (l ∷ rest) = p.words ∷ stages_from (after_line p l) rest

-- the words that so many lines of a script leave, for each number of lines from `from` to `to`
abbrev pub stages_within : List Line → ℕ → ℕ → ℕ → List (List ℕ)
stages_within script donation from to =
    map (words_after script donation) (range_with_len from (to + 1 - from))

-- the ink of a script whose session opens with this donation: each place may have what one of the
-- lines leaves there
abbrev pub script_ink : List Line → ℕ → Ink
script_ink script donation = Stages (stages_from (blank donation) script)

-- at each place the ink has all that the lines of the script leave there
abbrev pub HasStages : List Line → ℕ → Ink → Type 0
HasStages script donation ink =
    (k i : ℕ) → IsInked ink i (slice_index (words_after script donation k) i)

-- the colours that a line names
abbrev pub colours : Line → List ℕ
colours (line.Stroke (Fill x y w h c)) = c ∷ []
colours (line.Stroke (Check x y w h c d)) = c ∷ d ∷ []
colours other = []

-- the colours of a script: those that its strokes name
abbrev pub ink : List Line → List ℕ
ink script = flat_map colours script
