-- Regions of a screen, by four numbers.
use Rattle.std.specs.Prelude.{ℕ, ◌^◌, ◌+◌, ◌<◌, Bool, ◌==◌, ◌||◌, pos, nat_lt}
use Rattle.nit_run.specs.Below.{Rectangle, Region, rectangle}

-- the first number of more than nine digits
abbrev pub number_end : ℕ
number_end = 10 ^ 9

-- each number has at most nine digits
abbrev pub IsRegionWords : Region → Type 0
IsRegionWords r =
    (r.x < number_end) × (r.y < number_end) × (r.w < number_end) × (r.h < number_end)

-- the region has no pixels, or does not lie on a screen of this width and height
abbrev pub is_off_screen : Region → ℕ → ℕ → Bool
is_off_screen r width height =
    (r.w == 0) || ((r.h == 0) || (nat_lt width (r.x + r.w) || nat_lt height (r.y + r.h)))

-- the region as a rectangle
abbrev pub rectangle_of : Region → Rectangle
rectangle_of r = rectangle (pos r.x) (pos r.y) r.w r.h
