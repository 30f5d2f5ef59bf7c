-- Moves: which actor does which line of its script. Phases and lines count from 0.
use Rattle.std.specs.Prelude.{ℕ, suc, Bool, List, [], ◌∷◌, ◌++◌, map, if◌then◌else◌}
use Rattle.nit_rounds.specs.Below.{InputLine, Line, is_input_phase, is_phase}

-- a line, and whose it is: a client's, by its session, or the user's
pub data ActorLine : Type 0 where
  ByClient : ℕ → Line → ActorLine
  ByUser : InputLine → ActorLine

-- an actor does a line: in which phase, which line of its script by number, and what it is
pub record LineTurn : Type 0 where
  pub phase : ℕ
  pub number : ℕ
  pub doing : ActorLine

-- the line ends a phase of its actor
abbrev pub ends_phase : ActorLine → Bool
ends_phase (ByClient sid l) = is_phase l
ends_phase (ByUser l) = is_input_phase l

-- The moves of lines that begin in this phase with this number. A line `phase` is the last line of
-- its phase.
abbrev pub turns_from : ℕ → ℕ → List ActorLine → List LineTurn
turns_from phase number [] = []
turns_from phase number (d ∷ rest) =
    record { phase = phase; number = number; doing = d }
    ∷ turns_from (if ends_phase d then suc phase else phase) (suc number) rest

-- the moves of a whole script
abbrev pub turns_of : List ActorLine → List LineTurn
turns_of doings = turns_from 0 0 doings

-- the scripts of clients, whose sessions count from this number
abbrev pub clients_from : ℕ → List (List Line) → List (List ActorLine)
clients_from sid [] = []
clients_from sid (script ∷ rest) = map (ByClient sid) script ∷ clients_from (suc sid) rest

-- the scripts of all actors: of each client in order, and then of the user
abbrev pub actors : List (List Line) → List InputLine → List (List ActorLine)
actors scripts input = clients_from 0 scripts ++ map ByUser input ∷ []
