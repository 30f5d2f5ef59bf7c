-- Rectangles as sets of pixels.
use Rattle.std.specs.Prelude.{ℕ, Bool, ◌&&◌, ℤ, pos, negsuc, ◌+ℤ◌, ◌≤ℤ◌, int_lt, int_le, nat_le}
use Rattle.nit_rect.specs.Below.{Point}
use Rattle.nit_rect.specs.Limits.{most_length}

-- a left column, a top row, a width and a height
pub record Rectangle : Type 0 where
  pub x : ℤ
  pub y : ℤ
  pub w : ℕ
  pub h : ℕ

abbrev pub rectangle : ℤ → ℤ → ℕ → ℕ → Rectangle
rectangle x y w h = record { x = x; y = y; w = w; h = h }

-- a column or row is -32768..=32767
abbrev pub is_place : ℤ → Bool
is_place z = int_le (negsuc most_length) z && int_le z (pos most_length)

abbrev pub IsPlace : ℤ → Type 0
IsPlace z = (negsuc most_length ≤ℤ z) × (z ≤ℤ pos most_length)

-- a width or height is 0..=32767
abbrev pub is_length : ℕ → Bool
is_length n = nat_le n most_length

-- four numbers in the range of a rectangle
abbrev pub is_rectangle : ℤ → ℤ → ℕ → ℕ → Bool
is_rectangle x y w h = is_place x && is_place y && is_length w && is_length h

-- a place is among the `long` places from `from` on
abbrev pub spans : ℤ → ℕ → ℤ → Bool
spans from long at = int_le from at && int_lt at (from +ℤ pos long)

-- the pixel lies in the rectangle
abbrev pub covers : Rectangle → Point → Bool
covers r p = spans r.x r.w p.x && spans r.y r.h p.y
