-- Columns and rows of the screen, moved so that none is below 0.
use Rattle.std.specs.Prelude.{ℕ, ◌+◌, ◌-◌, ◌==◌, ℤ, pos, negsuc, Bool, ◌&&◌, ◌||◌, nat_le, nat_lt}
use Rattle.nit_overlay.specs.Below.{Span}

-- a column or row moved by 32768
abbrev pub moved_of : ℤ → ℕ
moved_of (pos n) = n + 32768
moved_of (negsuc n) = 32767 - n

-- a column or row of the screen is one of these
abbrev pub span_has : Span → ℕ → Bool
span_has s at = nat_le s.from (at + 32768) && nat_lt (at + 32768) s.to

-- it is the first or the last of them
abbrev pub has_at_end : Span → ℕ → Bool
has_at_end s at = (at + 32768) == s.from || (at + 32769) == s.to
