-- A server within a client: what a run by turns shows, as frames, and the setup of a run whose
-- first
-- client's script shows these frames.
use Rattle.std.specs.Prelude.{ℕ, true, List, [], ◌∷◌, ◌++◌, map, Some, ◌+◌, nat_lt, Bool, false}
use Rattle.std.specs.Prelude.{length}
use Rattle.nit_run.specs.Below.{CanPay, Line, NestModel, ShowsFrames, count_lines, drawn, frame_of}
use Rattle.nit_run.specs.Below.{lines_of_frames, most_lines, nest_script, rounds, shot_frames_of}
use Rattle.nit_run.specs.Setup.{RunFiles, Setup}
use Rattle.nit_run.specs.Outputs.{raw_word, tables_left}

-- ---- what is shown

-- the last frame of a run by turns: each client's words are those that its script leaves
abbrev pub last_frame : RunFiles → List ℕ
last_frame i =
    let state = (drawn i.config i.scripts (rounds i.scripts i.input)).state in
    frame_of state (raw_word state (tables_left i.config i.scripts))

-- the frames of a run by turns: those of its shots, in order, and the last one
abbrev pub frames_of : RunFiles → List (List ℕ)
frames_of i =
    map (λ f. f.words) (shot_frames_of i.config i.scripts i.input) ++ last_frame i ∷ []

-- with the size of their screen
abbrev pub nest_of : RunFiles → NestModel
nest_of i = record { w = i.config.width; h = i.config.height; frames = frames_of i }

-- ---- what shows it

-- at the end of each of its phases a script has the phase's frame in its buffer, whatever its
-- session's donation, where the session can pay for the buffer
abbrev pub ShowsNest : NestModel → List Line → Type 0
ShowsNest n script =
    (donation : ℕ) → CanPay donation n.w n.h → ShowsFrames n.w n.h n.frames script donation

-- the first of some scripts shows the frames
abbrev pub FirstShows : NestModel → List (List Line) → Type 0
FirstShows n [] = ⊥
FirstShows n (script ∷ rest) = ShowsNest n script

-- the first script, made to show frames, and the others as they are
abbrev pub shown_first : NestModel → List (List Line) → List (List Line)
shown_first n [] = []
shown_first n (own ∷ rest) = nest_script n own ∷ rest

-- the outer files' run, in which the first client's script shows what the inner files' run shows
abbrev pub nested_setup : RunFiles → RunFiles → Setup
nested_setup outer inner = record {
  config = outer.config;
  scripts = shown_first (nest_of inner) outer.scripts;
  input = outer.input;
  texts = true;
  beside = true;
  made = [];
  inner = Some inner;
  clips = [];
}

-- a `buffer` line, the lines of all frames and those of the first script are more together than a
-- script may have
abbrev pub is_too_long : NestModel → List (List Line) → Bool
is_too_long n [] = false
is_too_long n (own ∷ rest) =
    nat_lt most_lines (1 + count_lines (lines_of_frames n) + length own)
