-- A nest as contracts see it, and what it answers.
use Rattle.std.specs.Prelude.{◌≡◌, ℕ, ◌+◌, ◌≤◌, ◌==◌, nat_lt, List, length, map, Option, Some, None}
use Rattle.std.specs.Prelude.{Result, Ok, Err, if◌then◌else◌}
use Rattle.nit_nested.specs.Below.{AllByRecursion, Bad, IsScreenSize, Line, NestError, NoMemory}
use Rattle.nit_nested.specs.Below.{Phases, TooLong, most_lines, phases}
use Rattle.nit_nested.specs.FrameLines.{frame_lines, words_of_lines, IsFrame}
use Rattle.nit_nested.specs.FrameScript.{count_lines, first_forbidden, frame_script}

-- a screen's width and height, and the words of each frame
pub record NestModel : Type 0 where
  pub w : ℕ
  pub h : ℕ
  pub frames : List (List ℕ)

-- the lines of each frame
abbrev pub lines_of_frames : NestModel → List (List Line)
lines_of_frames n = map (frame_lines n.w n.h) n.frames

-- the script that shows these frames
abbrev pub nest_script : NestModel → List Line → List Line
nest_script n own = frame_script n.w n.h (lines_of_frames n) own

-- ---- answers

-- one more frame: refused where a `buffer` line, the lines of the frames so far and the frame's own
-- are too many together
abbrev pub frame_answer : NestModel → List ℕ → Result (Unit {0}) NestError
frame_answer n words =
    if nat_lt most_lines (1 + count_lines (lines_of_frames n) + length (frame_lines n.w n.h words))
    then Err TooLong
    else Ok tt

-- the script, unless it is too long
abbrev pub unless_long : List Line → Result (List Line) NestError
unless_long lines = if nat_lt most_lines (length lines) then Err TooLong else Ok lines

-- the script, unless a line is forbidden, or its phases are not as many as the frames, or it is too
-- long
abbrev pub unless_forbidden : Option ℕ → NestModel → List Line → Result (List Line) NestError
unless_forbidden (Some number) n own = Err (Bad number)
unless_forbidden None n own =
    if phases own == length n.frames then unless_long (nest_script n own) else Err Phases

-- the script that shows the frames, or the first refusal that applies: the first line that may not
-- stand there, then the number of phases, and then the length
abbrev pub script_answer : NestModel → List Line → Result (List Line) NestError
script_answer n own = unless_forbidden (first_forbidden 1 own) n own

-- The fact holds, or memory ran out.
abbrev pub UnlessMemory : {A : Type 0} → Result A NestError → Type 0 → Type 0
UnlessMemory (Ok c) P = P
UnlessMemory (Err (Bad line)) P = P
UnlessMemory (Err Phases) P = P
UnlessMemory (Err TooLong) P = P
UnlessMemory (Err NoMemory) P = Unit {0}

-- ---- how frames are kept: as the lines of each, which tell its words

-- The screen has this size; the lines of each frame are those of the words that they tell, which
-- are as many as the screen has; and so many lines are held, which leave room for one more.
pub record IsNest (w h : ℕ) (frames : List (List Line)) (held : ℕ) : Type 0 where
  pub size : IsScreenSize w h
  pub lines : frames ≡ map (frame_lines w h) (map words_of_lines frames)
  pub words : AllByRecursion (IsFrame w h) (map words_of_lines frames)
  pub counted : held ≡ count_lines frames
  pub few : 1 + held ≤ most_lines
