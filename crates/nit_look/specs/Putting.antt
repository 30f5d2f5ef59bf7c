-- A part of a picture, put among rows of another length.
use Rattle.std.specs.Prelude.{◌≡◌, ◌≢◌, ◌<◌, ◌+◌, ◌-◌, ◌*◌, ◌&&◌, ◌||◌, ◌==◌, ℕ, Bool, List, nat_le}
use Rattle.std.specs.Prelude.{slice_index}
use Rattle.nit_look.specs.Below.{Area}

-- the columns and the rows of an area
abbrev pub area_width : Area → ℕ
area_width a = a.right - a.left

abbrev pub area_height : Area → ℕ
area_height a = a.bottom - a.top

-- The area has no pixel, or as many of its rows as it has fit among so many words, where each row
-- begins so many words behind the one above: no two overlap, and the last one ends in time.
abbrev pub has_room : Area → ℕ → ℕ → Bool
has_room a pitch words =
    (area_width a == 0 || area_height a == 0)
    || ((area_height a == 1 || nat_le (area_width a) pitch)
    && nat_le ((area_height a - 1) * pitch + area_width a) words)

-- Each pixel of the area, by its row and column in it, stands at its place among rows of which each
-- begins so many words behind the one above. No other word has changed.
pub record IsPartPut (width : ℕ) (a : Area) (pitch : ℕ) (frame before after : List ℕ) : Type 0 where
  pub put : (row column : ℕ) → row < area_height a → column < area_width a
      → slice_index after (row * pitch + column)
      ≡ slice_index frame ((a.top + row) * width + (a.left + column))
  pub kept : (k : ℕ)
      → ((row column : ℕ) → row < area_height a → column < area_width a → k ≢ row * pitch + column)
      → slice_index after k ≡ slice_index before k
