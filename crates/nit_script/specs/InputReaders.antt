-- Lines of an input script read from left to right.
use Rattle.std.specs.Prelude.{ℕ, ℤ, Bool, ◌&&◌, nat_le, int_le, List, Option, codes}
use Rattle.nit_script.specs.Below.{Device, InputLine, Motion, Press, Release, Wheel, least_turn}
use Rattle.nit_script.specs.Below.{most_code, most_pointer, most_turn}
use Rattle.nit_script.specs.declared.line.InputLine.TheVariants as input
use Rattle.nit_script.specs.FieldReaders.{first_of, nothing_at, at_both, at_made, at_tested}
use Rattle.nit_script.specs.FieldReaders.{at_kind, at_ended, nat_field, int_field}

-- the code of a key or button
abbrev pub is_code : ℕ → Bool
is_code k = nat_le k most_code

-- a column or row of the pointer
abbrev pub is_pointer_place : ℕ → Bool
is_pointer_place n = nat_le n most_pointer

-- how far the wheel turns
abbrev pub is_wheel : ℤ → Bool
is_wheel z = int_le least_turn z && int_le z most_turn

-- a code after a space
abbrev pub code_field : List ℕ → Option (ℕ × List ℕ)
code_field = at_tested is_code nat_field

-- a column or row after a space
abbrev pub pointer_field : List ℕ → Option (ℕ × List ℕ)
pointer_field = at_tested is_pointer_place nat_field

-- a turn after a space
abbrev pub wheel_field : List ℕ → Option (ℤ × List ℕ)
wheel_field = at_tested is_wheel int_field

-- `press` and a code
unfoldable pub press_at : List ℕ → Option (Device × List ℕ)
press_at = at_kind (codes "press") code_field (λ k. Press k)

-- `release` and a code
unfoldable pub release_at : List ℕ → Option (Device × List ℕ)
release_at = at_kind (codes "release") code_field (λ k. Release k)

-- `motion`, a column and a row
unfoldable pub motion_at : List ℕ → Option (Device × List ℕ)
motion_at = at_kind (codes "motion") (at_both pointer_field pointer_field) (λ p. Motion p.0 p.1)

-- `wheel` and a turn
unfoldable pub wheel_at : List ℕ → Option (Device × List ℕ)
wheel_at = at_kind (codes "wheel") wheel_field (λ n. Wheel n)

-- what the user does
unfoldable pub device_at : List ℕ → Option (Device × List ℕ)
device_at bytes =
    first_of (press_at bytes)
    (first_of (release_at bytes) (first_of (motion_at bytes) (wheel_at bytes)))

-- `shot`
abbrev pub shot_at : List ℕ → Option (InputLine × List ℕ)
shot_at = at_kind (codes "shot") nothing_at (λ _. input.Shot)

-- `phase`
abbrev pub input_phase_at : List ℕ → Option (InputLine × List ℕ)
input_phase_at = at_kind (codes "phase") nothing_at (λ _. input.Phase)

-- a line of an input script up to its line feed
unfoldable pub input_front_at : List ℕ → Option (InputLine × List ℕ)
input_front_at bytes =
    first_of (at_made input.Device device_at bytes)
    (first_of (shot_at bytes) (input_phase_at bytes))

-- a line of an input script with its line feed
unfoldable pub input_at : List ℕ → Option (InputLine × List ℕ)
input_at = at_ended input_front_at
