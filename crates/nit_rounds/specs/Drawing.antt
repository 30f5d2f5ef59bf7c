-- What is drawn along the rounds of some scripts: the words of the screen's pixels, and the frames
-- of the shots with their pictures. It comes from the configuration and the scripts alone.
use Rattle.std.specs.Prelude.{ℕ, ◌+◌, ◌==◌, List, [], ◌∷◌, ◌++◌, length, map, fold, Option, Some}
use Rattle.std.specs.Prelude.{None, if◌then◌else◌}
use Rattle.nit_rounds.specs.Below.{Configuration, Entry, File, InputLine, Line, State, after}
use Rattle.nit_rounds.specs.Below.{bare_word, dirty, donation_of, first_state, frame, picture}
use Rattle.nit_rounds.specs.Below.{pixel, route, routed_as, scenery_of, script_in, serve, session}
use Rattle.nit_rounds.specs.Below.{source_at, words_after}
use Rattle.nit_events.specs.declared.entry.Entry.TheVariants as entry
use Rattle.nit_script.specs.declared.line.Line.TheVariants as line
use Rattle.nit_script.specs.declared.line.InputLine.TheVariants as input
pub use Rattle.nit_scene.specs.RawWords.{word_from, words_of}
use Rattle.nit_rounds.specs.Turn.{ActorLine, ByClient, ByUser, LineTurn}
use Rattle.nit_rounds.specs.Rounds.{rounds}
use Rattle.nit_rounds.specs.ShotFrames.{ShotFrame, shot_file}

-- what some moves leave: the state that their entries lead to, how many lines of its script each
-- session's client has done, the word that each pixel holds, by the pixel's number, and the frames
-- of the shots, in order
pub record Drawing : Type 0 where
  pub state : State
  pub done : ℕ → ℕ
  pub word : ℕ → ℕ
  pub shots : List ShotFrame

-- before the first move no line is done, each pixel holds the bare word, and no shot is taken
abbrev pub opening_drawing : Configuration → Drawing
opening_drawing config =
    record { state = first_state config; done = λ t. 0; word = λ k. bare_word; shots = [] }

-- ---- one line

-- The entry by which a line changes the state or the screen. A call has the reply of its session's
-- machine, and a device event has the deliveries that the state routes it to. Shots, strokes and
-- ends of phases change neither.
abbrev pub entry_of : State → ActorLine → Option Entry
entry_of s (ByClient sid (line.Call call)) =
    Some (entry.Call sid call (serve (session s sid) call).reply)
entry_of s (ByClient sid other) = None
entry_of s (ByUser (input.Device dev)) =
    Some (entry.Input dev (routed_as (route s.config s.input s.stack dev).deliveries))
entry_of s (ByUser other) = None

-- the state after such an entry, or after none
abbrev pub state_after : State → Option Entry → State
state_after s None = s
state_after s (Some e) = after s e

-- how many lines each client has done when this one is done too
abbrev pub done_after : ActorLine → (ℕ → ℕ) → ℕ → ℕ
done_after (ByClient sid l) done t = if sid == t then done t + 1 else done t
done_after (ByUser l) done t = done t

-- the words that each script leaves in its table when so many of its lines are done
abbrev pub tables_after : Configuration → List (List Line) → (ℕ → ℕ) → ℕ → List ℕ
tables_after config scripts done t =
    words_after (script_in scripts t) (donation_of config t) (done t)

-- An entry gives each pixel that it makes dirty the word of the pixel's source in the state after
-- it, where the tables have these words. Every other pixel keeps its word.
abbrev pub word_after_entry : (ℕ → List ℕ) → State → Option Entry → (ℕ → ℕ) → ℕ → ℕ
word_after_entry tables s None word k = word k
word_after_entry tables s (Some e) word k =
    if dirty s e (after s e) (pixel s.config.width k)
    then word_from tables (source_at (after s e) k) else word k

-- the frame of a state whose pixels hold these words
abbrev pub frame_of : State → (ℕ → ℕ) → List ℕ
frame_of s word = frame (scenery_of s) (words_of s word)

-- its picture
abbrev pub picture_of : Configuration → State → (ℕ → ℕ) → List ℕ
picture_of config s word = picture config.width config.height (frame_of s word)

-- a shot has the frame of what is drawn; the shots are numbered from 1 on
abbrev pub drawn_shot : Configuration → Drawing → ShotFrame
drawn_shot config d = record {
  number = length d.shots + 1;
  width = config.width;
  height = config.height;
  words = frame_of d.state d.word;
}

abbrev pub shots_after : Configuration → ActorLine → Drawing → List ShotFrame
shots_after config (ByUser input.Shot) d = d.shots ++ drawn_shot config d ∷ []
shots_after config other d = d.shots

-- what is drawn after one more move
abbrev pub after_turn : Configuration → List (List Line) → Drawing → LineTurn → Drawing
after_turn config scripts d m =
    let e = entry_of d.state m.doing in
    let done = done_after m.doing d.done in
    record {
      state = state_after d.state e;
      done = done;
      word = word_after_entry (tables_after config scripts done) d.state e d.word;
      shots = shots_after config m.doing d;
    }

-- ---- all lines

-- what is drawn after these moves
unfoldable pub drawn : Configuration → List (List Line) → List LineTurn → Drawing
drawn config scripts moves = fold (after_turn config scripts) (opening_drawing config) moves

-- the frames of all shots of a run by rounds
abbrev pub shot_frames_of : Configuration → List (List Line) → List InputLine → List ShotFrame
shot_frames_of config scripts lines = (drawn config scripts (rounds scripts lines)).shots

-- their pictures: shot-1.ppm and so on
abbrev pub shots_of : Configuration → List (List Line) → List InputLine → List File
shots_of config scripts lines = map shot_file (shot_frames_of config scripts lines)
