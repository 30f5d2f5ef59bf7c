-- What of a view lies on the screen, by its edges.
use Rattle.nit_place.specs.Below.{List, Rectangle, ScreenPart, View, fresh, max, min}
use Rattle.nit_place.specs.Below.{slice_index_or, ℕ}
use Rattle.nit_place.specs.Edges.{on_screen, right_of, bottom_of}

-- the part of a rectangle at columns and rows from 0 on
abbrev pub part_of : Rectangle → ScreenPart
part_of r =
    record {
      left = on_screen r.x;
      top = on_screen r.y;
      right = on_screen (right_of r);
      bottom = on_screen (bottom_of r);
    }

-- the part at columns and rows from 0 on of the view at a place of the stack
abbrev pub part_at : List View → ℕ → ScreenPart
part_at stack k = part_of (slice_index_or stack k (fresh 0 0)).rect

-- the part of a rectangle on the screen below the bar
abbrev pub area_of : ℕ → ℕ → ℕ → Rectangle → ScreenPart
area_of width height rows r =
    record {
      left = on_screen r.x;
      top = max (on_screen r.y) rows;
      right = min (on_screen (right_of r)) width;
      bottom = min (on_screen (bottom_of r)) height;
    }
