-- Lines read from left to right.
use Rattle.nit_script.specs.Below.{Check, Fill, Line, List, Option, Stroke, codes, ℕ}
use Rattle.nit_script.specs.declared.line.Line.TheVariants as line
use Rattle.nit_script.specs.FieldReaders.{first_of, nothing_at, at_both, at_made, at_kind, at_ended}
use Rattle.nit_script.specs.FieldReaders.{nat_field, colour_field}
use Rattle.nit_script.specs.CallReaders.{call_at}

-- `fill`, a place, a width, a height and a colour
unfoldable pub fill_at : List ℕ → Option (Stroke × List ℕ)
fill_at =
    at_kind (codes "fill")
    (at_both nat_field (at_both nat_field (at_both nat_field (at_both nat_field colour_field))))
    (λ p. Fill p.0 p.1.0 p.1.1.0 p.1.1.1.0 p.1.1.1.1)

-- `check`, a place, a width, a height and two colours
unfoldable pub check_at : List ℕ → Option (Stroke × List ℕ)
check_at =
    at_kind (codes "check")
    (at_both nat_field
    (at_both nat_field
    (at_both nat_field (at_both nat_field (at_both colour_field colour_field)))))
    (λ p. Check p.0 p.1.0 p.1.1.0 p.1.1.1.0 p.1.1.1.1.0 p.1.1.1.1.1)

-- any stroke
unfoldable pub stroke_at : List ℕ → Option (Stroke × List ℕ)
stroke_at bytes = first_of (fill_at bytes) (check_at bytes)

-- `phase`
abbrev pub phase_at : List ℕ → Option (Line × List ℕ)
phase_at = at_kind (codes "phase") nothing_at (λ _. line.Phase)

-- a line of a client's script up to its line feed
unfoldable pub line_front_at : List ℕ → Option (Line × List ℕ)
line_front_at bytes =
    first_of (at_made line.Call call_at bytes)
    (first_of (at_made line.Stroke stroke_at bytes) (phase_at bytes))

-- a line of a client's script with its line feed
unfoldable pub line_at : List ℕ → Option (Line × List ℕ)
line_at = at_ended line_front_at
