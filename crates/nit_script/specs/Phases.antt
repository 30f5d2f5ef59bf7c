-- The phases of a script.
use Rattle.std.specs.Prelude.{ℕ, ◌+◌, Bool, true, false, List, count_by}
use Rattle.nit_script.specs.Below.{InputLine, Line}
use Rattle.nit_script.specs.declared.line.Line.TheVariants as line
use Rattle.nit_script.specs.declared.line.InputLine.TheVariants as input

-- how many phases lines have, by which of them end one: those, and one more
abbrev pub phases_by : {L : Type 0} → (L → Bool) → List L → ℕ
phases_by ends lines = count_by ends lines + 1

-- the line ends a phase
abbrev pub is_phase : Line → Bool
is_phase line.Phase = true
is_phase other = false

-- how many phases a client's script has
abbrev pub phases : List Line → ℕ
phases = phases_by is_phase

-- the line ends a phase
abbrev pub is_input_phase : InputLine → Bool
is_input_phase input.Phase = true
is_input_phase other = false

-- how many phases an input script has
abbrev pub input_phases : List InputLine → ℕ
input_phases = phases_by is_input_phase
