-- What is left of the rounds of scripts, where each actor stands at a place of its script.
use Rattle.std.specs.Prelude.{◌≡◌, ℕ, suc, ◌+◌, ◌-◌, ◌<◌, ◌≤◌, ◌==◌, Bool, true, false, ◌&&◌}
use Rattle.std.specs.Prelude.{nat_lt, List, [], ◌∷◌, ◌++◌, map, length, take, drop, slice_index_or}
use Rattle.std.specs.Prelude.{if◌then◌else◌, Option, Some, None}
use Rattle.nit_rounds.specs.Below.{AllByRecursion, InputLine, Line, LinePlace, Places, Turn}
use Rattle.nit_rounds.specs.Below.{flat_map, most_lines, most_sessions, range_with_len}
use Rattle.nit_rounds.specs.declared.turn.Turn.TheVariants as turn
use Rattle.nit_rounds.specs.Turn.{ActorLine, ByClient, ByUser, LineTurn, turns_from, actors}
use Rattle.nit_rounds.specs.Rounds.{in_phase, all_rounds, phase_rounds, phase_count}

-- who does a line, and the line's number
abbrev pub turn_by : ActorLine → ℕ → Turn
turn_by (ByClient sid l) number = turn.Client sid number
turn_by (ByUser l) number = turn.User number

abbrev pub turn_of : LineTurn → Turn
turn_of m = turn_by m.doing m.number

-- the moves that an actor has left at its place
abbrev pub left_at : LinePlace → List ActorLine → List LineTurn
left_at place doings = turns_from place.phase place.line (drop place.line doings)

-- the moves that each actor has left
abbrev pub lefts : List LinePlace → List (List ActorLine) → List (List LineTurn)
lefts [] scripts = []
lefts (place ∷ places) [] = []
lefts (place ∷ places) (doings ∷ scripts) = left_at place doings ∷ lefts places scripts

-- the moves of this phase that each actor has left; those before this actor have done their move of
-- the round
abbrev pub rest_of_phase : ℕ → List (List LineTurn) → List LineTurn
rest_of_phase actor all =
    flat_map (take 1) (drop actor all)
    ++ all_rounds (take actor all ++ map (drop 1) (drop actor all))

-- what is left of the present phase, and the phases after it
unfoldable pub left_from : ℕ → ℕ → ℕ → List (List LineTurn) → List LineTurn
left_from count phase actor all =
    rest_of_phase actor (map (in_phase phase) all)
    ++ flat_map (phase_rounds all) (range_with_len (suc phase) (count - suc phase))

-- the moves that are left where actors stand at these places
abbrev pub turns_left : List (List Line) → List InputLine → Places → List LineTurn
turns_left scripts input at =
    left_from (phase_count scripts input) at.phase at.actor (lefts at.places (actors scripts input))

-- an actor of at most 65: a client, or the user after them
pub record IsActorOf (scripts : List (List Line)) (actor : ℕ) : Type 0 where
  pub few : length scripts ≤ most_sessions
  pub among : actor ≤ length scripts

-- the script of an actor
abbrev pub script_of : List (List Line) → List InputLine → ℕ → List ActorLine
script_of scripts input actor = slice_index_or (actors scripts input) actor []

-- the actor has a line that it is to do in this phase
abbrev pub is_active : ℕ → LinePlace → List ActorLine → Bool
is_active phase place doings = (place.phase == phase) && nat_lt place.line (length doings)

-- the place after a line, which ends a phase or does not
abbrev pub stepped : LinePlace → Bool → LinePlace
stepped place ends =
    record { line = place.line + 1; phase = if ends then place.phase + 1 else place.phase }

-- An actor with a line left is in the present phase, or has ended it. No line is in a phase that is
-- not one.
pub record StandsAt (count phase : ℕ) (place : LinePlace) (doings : List ActorLine) : Type 0 where
  pub reached : place.line < length doings → phase ≤ place.phase
  pub near : place.line < length doings → place.phase ≤ suc phase
  pub small : place.phase ≤ place.line
  pub within : AllByRecursion (λ m. m.phase < count) (left_at place doings)

-- each of at most 65 actors stands so
pub record ArePlaces (scripts : List (List Line)) (input : List InputLine)
    (at : Places) : Type 0 where
  pub few : length scripts ≤ most_sessions
  pub long : length at.places ≡ most_sessions + 1
  pub actor : at.actor ≤ length scripts + 1
  pub phase : at.phase ≤ most_lines
  pub stand : (k : ℕ) (d : LinePlace) → k ≤ length scripts
      → StandsAt (phase_count scripts input) at.phase (slice_index_or at.places k d)
      (script_of scripts input k)

-- the actor has a line to do in this phase
abbrev pub HasTurn : List (List Line) → List InputLine → List LinePlace → ℕ → ℕ → Type 0
HasTurn scripts input places phase actor =
    (actor ≤ length scripts)
    × ((d : LinePlace)
    → is_active phase (slice_index_or places actor d) (script_of scripts input actor) ≡ true)
    × ((d : LinePlace) → (slice_index_or places actor d).line < most_lines)

-- no actor from one up to another, without it, has a line to do in this phase
abbrev pub NoneHas : List (List Line) → List InputLine → List LinePlace → ℕ → ℕ → ℕ → Type 0
NoneHas scripts input places phase from to =
    (k : ℕ) (d : LinePlace) → from ≤ k → k < to
    → is_active phase (slice_index_or places k d) (script_of scripts input k) ≡ false

-- the first actor from a number on that has a line to do in this phase, or none where there is none
abbrev pub IsFirstActive : List (List Line) → List InputLine → List LinePlace → ℕ → ℕ → Option ℕ
    → Type 0
IsFirstActive scripts input places phase from None =
    NoneHas scripts input places phase from (length scripts + 1)
IsFirstActive scripts input places phase from (Some actor) =
    HasTurn scripts input places phase actor × (from ≤ actor)
    × NoneHas scripts input places phase from actor

-- the present actor has a line to do in the present phase
abbrev pub IsAtTurn : List (List Line) → List InputLine → Places → Type 0
IsAtTurn scripts input at = HasTurn scripts input at.places at.phase at.actor

-- a move, with this turn, is taken from the front of the list
abbrev pub IsNextTurn : List LineTurn → List LineTurn → Turn → Type 0
IsNextTurn before after turn = (m : LineTurn) × (before ≡ m ∷ after) × (turn ≡ turn_of m)
