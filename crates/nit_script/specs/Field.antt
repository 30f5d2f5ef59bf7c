-- What a part of a line is written as.
use Rattle.std.specs.Prelude.{◌≡◌, ℕ, List, length, take}
use Rattle.nit_script.specs.Below.{Colour, Field, Integer, Natural, Text}
use Rattle.nit_script.specs.Spelling.{nat, int, colour, text}

-- the bytes that were there before stand in front now
abbrev pub KeepsBytes : List ℕ → List ℕ → Type 0
KeepsBytes before now = take (length before) now ≡ before

-- a field with the space before it
abbrev pub field_spelling : Field → List ℕ
field_spelling (Natural n) = nat n
field_spelling (Integer z) = int z
field_spelling (Colour c) = colour c
field_spelling (Text t) = text t
