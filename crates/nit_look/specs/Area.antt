-- A part of a screen, as columns and rows.
use Rattle.std.specs.Prelude.{◌≤◌, ◌<◌, ◌-◌, ◌&&◌, ℕ, Bool, max, min, nat_le, nat_lt, pos}
use Rattle.nit_look.specs.Below.{Area, Rectangle, rectangle}
use Rattle.nit_look.specs.Copy.{is_in_span}

-- the pixel of this column and row lies in the area
abbrev pub has_place : Area → ℕ → ℕ → Bool
has_place a x y = is_in_span a.left a.right x && is_in_span a.top a.bottom y

-- it has a pixel
pub record HasPlaces (a : Area) : Type 0 where
  pub across : a.left < a.right
  pub down : a.top < a.bottom

-- it lies on the screen of this width and height
pub record IsAreaOf (width height : ℕ) (a : Area) : Type 0 where
  pub across : a.left ≤ a.right
  pub down : a.top ≤ a.bottom
  pub wide : a.right ≤ width
  pub high : a.bottom ≤ height

-- its edges are within those of the other
abbrev pub is_area_within : Area → Area → Bool
is_area_within a b =
    nat_le b.left a.left && nat_le b.top a.top && nat_le a.right b.right && nat_le a.bottom b.bottom

-- of two areas that have pixels: a pixel lies in both
abbrev pub areas_meet : Area → Area → Bool
areas_meet a b =
    nat_lt a.left b.right && nat_lt b.left a.right && nat_lt a.top b.bottom && nat_lt b.top a.bottom

-- the area that is bounded by the outermost edges of both
abbrev pub around : Area → Area → Area
around a b = record {
  left = min a.left b.left;
  top = min a.top b.top;
  right = max a.right b.right;
  bottom = max a.bottom b.bottom;
}

-- the rectangle of an area's pixels
abbrev pub rectangle_over : Area → Rectangle
rectangle_over a = rectangle (pos a.left) (pos a.top) (a.right - a.left) (a.bottom - a.top)
