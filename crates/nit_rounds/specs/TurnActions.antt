-- What moves put into a journal, and which lines of whom were done in them.
use Rattle.std.specs.Prelude.{◌≡◌, ℕ, ◌==◌, List, [], ◌∷◌, map, if◌then◌else◌}
use Rattle.nit_rounds.specs.Below.{Action, Acts, Calls, Does, Entry, InputLine, Line, Shoots}
use Rattle.nit_rounds.specs.Below.{action_of, flat_map}
use Rattle.nit_script.specs.declared.line.Line.TheVariants as line
use Rattle.nit_script.specs.declared.line.InputLine.TheVariants as input
use Rattle.nit_rounds.specs.Turn.{ActorLine, ByClient, ByUser, LineTurn}
use Rattle.nit_rounds.specs.Rounds.{rounds}

-- what a line puts into the journal: a call, a device event or a shot; strokes and ends of phases
-- put nothing
abbrev pub actions_of_line : ActorLine → List Action
actions_of_line (ByClient sid (line.Call call)) = Calls sid call ∷ []
actions_of_line (ByClient sid other) = []
actions_of_line (ByUser (input.Device dev)) = Acts (Does dev) ∷ []
actions_of_line (ByUser input.Shot) = Acts Shoots ∷ []
actions_of_line (ByUser input.Phase) = []

-- what moves put into the journal, in order
abbrev pub actions_of_turns : List LineTurn → List Action
actions_of_turns moves = flat_map (λ m. actions_of_line m.doing) moves

-- the entries of the journal are, in order, those of the rounds; the last picture is not among them
abbrev pub AreRoundsOf : List Entry → List (List Line) → List InputLine → Type 0
AreRoundsOf journal scripts input = map action_of journal ≡ actions_of_turns (rounds scripts input)

-- the line, where this session's client does it
abbrev pub line_by : ℕ → ActorLine → List Line
line_by s (ByClient sid l) = if sid == s then l ∷ [] else []
line_by s (ByUser l) = []

-- the line, where the user does it
abbrev pub input_by_user : ActorLine → List InputLine
input_by_user (ByClient sid l) = []
input_by_user (ByUser l) = l ∷ []

-- the lines that a session's client does in moves, in order
abbrev pub lines_of : ℕ → List LineTurn → List Line
lines_of s moves = flat_map (λ m. line_by s m.doing) moves

-- the lines that the user does in moves, in order
abbrev pub input_lines_of : List LineTurn → List InputLine
input_lines_of moves = flat_map (λ m. input_by_user m.doing) moves
