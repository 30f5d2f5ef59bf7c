-- The script that shows frames: another script's lines, with each frame at the beginning of its
-- phase.
use Rattle.std.specs.Prelude.{ℕ, ◌+◌, Bool, true, false, List, [], ◌∷◌, ◌++◌, length, Option, Some}
use Rattle.std.specs.Prelude.{None, if◌then◌else◌}
use Rattle.nit_nested.specs.Below.{Buffer, Close, Line, sum_by}
use Rattle.nit_script.specs.declared.line.Line.TheVariants as line

-- how many lines all frames have
abbrev pub count_lines : List (List Line) → ℕ
count_lines frames = sum_by length frames

-- ---- the script

-- the lines of the next frame; and the frames after it
abbrev pub next_frame : List (List Line) → List Line
next_frame [] = []
next_frame (f ∷ rest) = f

abbrev pub frames_behind : List (List Line) → List (List Line)
frames_behind [] = []
frames_behind (f ∷ rest) = rest

-- a script's lines, each `phase` followed by the next frame's
abbrev pub woven : List (List Line) → List Line → List Line
woven frames [] = []
woven frames (line.Phase ∷ rest) =
    line.Phase ∷ (next_frame frames ++ woven (frames_behind frames) rest)
woven frames (line.Call c ∷ rest) = line.Call c ∷ woven frames rest
woven frames (line.Stroke s ∷ rest) = line.Stroke s ∷ woven frames rest

-- the buffer before all, then the first frame, and then the script with the others
abbrev pub frame_script : ℕ → ℕ → List (List Line) → List Line → List Line
frame_script w h frames own =
    line.Call (Buffer w h) ∷ (next_frame frames ++ woven (frames_behind frames) own)

-- ---- what may not stand in the script

-- the line would change the words or the size of the buffer: `buffer`, `fill`, `check` or `close`
abbrev pub is_forbidden : Line → Bool
is_forbidden (line.Call (Buffer w h)) = true
is_forbidden (line.Call Close) = true
is_forbidden (line.Call other) = false
is_forbidden (line.Stroke s) = true
is_forbidden line.Phase = false

-- the number of the first such line, the lines being counted from this number on
abbrev pub first_forbidden : ℕ → List Line → Option ℕ
first_forbidden n [] = None
first_forbidden n (l ∷ rest) = if is_forbidden l then Some n else first_forbidden (n + 1) rest
