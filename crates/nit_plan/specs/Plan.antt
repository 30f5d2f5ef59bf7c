-- What a script alone says of each of its lines: the size of the buffer after it, and what is
-- answered to it while the session is live.
use Rattle.std.specs.Prelude.{◌≡◌, ℕ, ◌*◌, nat_lt, Bool, ◌&&◌, false, IsTrue, List, [], ◌∷◌}
use Rattle.std.specs.Prelude.{if◌then◌else◌}
use Rattle.nit_plan.specs.Below.{Buffer, Call, Expect, Line, MayHoldBetween, Reply, Session, Sight}
use Rattle.nit_plan.specs.Below.{Status, Step, Take, first_session, is_accepted, serve}
use Rattle.nit_events.specs.declared.event.Status.TheVariants as status
use Rattle.nit_script.specs.declared.line.Line.TheVariants as line
use Rattle.nit_plan.specs.declared.plan.Expect.TheVariants as expect
use Rattle.nit_plan.specs.Strokes.{IsStrokeInked, is_stroked, stroked, cleared}
use Rattle.nit_plan.specs.ScriptWords.{ink}

-- the session after a line, getting no item
abbrev pub session_after : Session → Line → Session
session_after s (line.Call c) = (serve s c).session
session_after s other = s

-- what a session is to answer to a call, by its status and by what it answers if it gets no item: a
-- `Take` of a live session may also be answered by an event, and the script does not say which
abbrev pub expected_of : Call → Status → Reply → Expect
expected_of Take status.Live r = expect.Taken
expected_of c how r = expect.Reply r

-- what is answered to a line; to a line that is no call there is no answer
abbrev pub expected : Session → Line → Expect
expected s (line.Call c) = expected_of c s.status (serve s c).reply
expected s other = expect.Nothing

-- the step of a line, by the sessions before and after it
abbrev pub step_of_line : Session → Session → Line → Step
step_of_line before after l = record { w = after.bw; h = after.bh; expect = expected before l }

-- the steps of the lines, from this session on
abbrev pub steps_from : Session → List Line → List Step
steps_from s [] = []
steps_from s (l ∷ rest) = step_of_line s (session_after s l) l ∷ steps_from (session_after s l) rest

-- one step for each line of a script, and the colours that the script names
pub record PlanModel : Type 0 where
  pub steps : List Step
  pub ink : List ℕ

-- the plan of a script whose session opens with this donation
abbrev pub plan_of_script : List Line → ℕ → PlanModel
plan_of_script script donation =
    record { steps = steps_from (first_session donation) script; ink = ink script }

-- these are the steps and the ink of the script
abbrev pub IsPlanOf : List Line → ℕ → PlanModel → Type 0
IsPlanOf script donation plan = plan ≡ plan_of_script script donation

-- ---- what a step does to words

-- the answer is known, and it is no refusal
abbrev pub accepts : Expect → Bool
accepts (expect.Reply r) = is_accepted r
accepts other = false

-- the words after a line, by its step: an accepted `buffer` line clears the new buffer, a stroke is
-- painted into the buffer, and no other line sets a word
abbrev pub words_by_step : Line → Step → List ℕ → List ℕ
words_by_step (line.Call (Buffer w h)) step words =
    if accepts step.expect then cleared step.w step.h words else words
words_by_step (line.Stroke s) step words = stroked (record { w = step.w; h = step.h }) s words
words_by_step other step words = words

-- at each place that the line sets, its word there may be stored: 0 at those of a new buffer, if
-- the `buffer` line is accepted, and its colours at those of a stroke
abbrev pub IsLineInked : Sight → Step → Line → Type 0
IsLineInked sight step (line.Call (Buffer w h)) =
    IsTrue (accepts step.expect) → MayHoldBetween sight 0 (step.w * step.h) (λ n. 0)
IsLineInked sight step (line.Stroke s) =
    IsStrokeInked sight (record { w = step.w; h = step.h }) s
IsLineInked sight step other = Unit {0}

-- the line sets the word of the place in column i and row j of the buffer: an accepted `buffer`
-- line sets all places of the new buffer, a stroke those that the buffer and its rectangle have,
-- and any other line none
abbrev pub is_set_by : Line → Step → ℕ → ℕ → Bool
is_set_by (line.Call (Buffer w h)) step i j =
    accepts step.expect && nat_lt i step.w && nat_lt j step.h
is_set_by (line.Stroke s) step i j = nat_lt i step.w && nat_lt j step.h && is_stroked s i j
is_set_by other step i j = false
