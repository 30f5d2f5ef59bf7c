-- Which lines of a script the room serves, and what they put into the journal.
use Rattle.std.specs.Prelude.{ℕ, zero, suc, Bool, true, false, List, [], ◌∷◌, filter, take, ◌+◌}
use Rattle.nit_hall.specs.Below.{Does, InputLine, Line, Shoots, UserAction, count_by}
use Rattle.nit_hall.specs.Below.{is_input_phase, is_phase, length, map, sum}
use Rattle.nit_script.specs.declared.line.Line.TheVariants as line
use Rattle.nit_script.specs.declared.line.InputLine.TheVariants as input

-- the room serves a line of a client that is a call or ends a phase; a stroke is made without it
abbrev pub is_served : Line → Bool
is_served (line.Stroke s) = false
is_served other = true

-- the lines of a script that the room serves, in order
abbrev pub served : List Line → List Line
served lines = filter is_served lines

-- the device events and shots among lines
abbrev pub user_actions_in : List InputLine → List UserAction
user_actions_in [] = []
user_actions_in (input.Device d ∷ rest) = Does d ∷ user_actions_in rest
user_actions_in (input.Shot ∷ rest) = Shoots ∷ user_actions_in rest
user_actions_in (input.Phase ∷ rest) = user_actions_in rest

-- how many phases end in the first k lines of a script
abbrev pub phases_before : List Line → ℕ → ℕ
phases_before script k = count_by is_phase (take k script)

-- how many phases end in the first k lines of the input script
abbrev pub input_phases_before : List InputLine → ℕ → ℕ
input_phases_before script k = count_by is_input_phase (take k script)

-- how many lines a script has up to its n-th call, that one counted; all of them where it has fewer
-- calls
abbrev pub lines_to_call : ℕ → List Line → ℕ
lines_to_call zero lines = 0
lines_to_call (suc n) [] = 0
lines_to_call (suc n) (line.Call c ∷ rest) = suc (lines_to_call n rest)
lines_to_call (suc n) (other ∷ rest) = suc (lines_to_call (suc n) rest)

-- how many lines all scripts have
abbrev pub lines_of_all : List (List Line) → List InputLine → ℕ
lines_of_all scripts input = sum (map length scripts) + length input
