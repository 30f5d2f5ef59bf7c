-- The rounds of scripts: the one order in which all actors do their lines on one thread.
use Rattle.std.specs.Prelude.{ℕ, ◌==◌, max, List, [], ◌∷◌, map, length, take, drop, filter}
use Rattle.nit_rounds.specs.Below.{InputLine, Line, flat_map, input_phases, phases, range_with_len}
use Rattle.nit_rounds.specs.Turn.{LineTurn, turns_of, actors}

-- the greatest of some numbers, and 0 of none
abbrev pub greatest : List ℕ → ℕ
greatest [] = 0
greatest (n ∷ rest) = max n (greatest rest)

-- the moves of a phase
abbrev pub in_phase : ℕ → List LineTurn → List LineTurn
in_phase p moves = filter (λ m. m.phase == p) moves

-- The moves of each actor in one phase are given. In a round each actor that has a move with the
-- round's number does it, in the order of the actors.
abbrev pub round : List (List LineTurn) → ℕ → List LineTurn
round actors r = flat_map (λ moves. take 1 (drop r moves)) actors

-- there are as many rounds as the longest of these lists has moves
abbrev pub all_rounds : List (List LineTurn) → List LineTurn
all_rounds actors = flat_map (round actors) (range_with_len 0 (greatest (map length actors)))

-- all moves of each actor are given: the rounds of one phase
abbrev pub phase_rounds : List (List LineTurn) → ℕ → List LineTurn
phase_rounds actors p = all_rounds (map (in_phase p) actors)

-- how many phases there are
abbrev pub phase_count : List (List Line) → List InputLine → ℕ
phase_count scripts input = greatest (input_phases input ∷ map phases scripts)

-- the rounds of all phases, one phase after the other
abbrev pub rounds : List (List Line) → List InputLine → List LineTurn
rounds scripts input =
    flat_map (phase_rounds (map turns_of (actors scripts input)))
    (range_with_len 0 (phase_count scripts input))
