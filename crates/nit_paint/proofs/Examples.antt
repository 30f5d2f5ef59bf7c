-- Worked rows of painting, computed from the definitions.
use Rattle.std.proofs.Common.{[], false, pos, refl, true, ℕ, ◌∷◌, ◌≡◌}
use Rattle.nit_paint.proofs.Basics.{Bare, Black, Rectangle, SlotView, StackModel, Word, has_pixel}
use Rattle.nit_paint.proofs.Basics.{loads_at, rectangle, source_of_number, times_shown}

-- a view of session 0 in its slot
abbrev seat : ℕ → ℕ → Rectangle → ℕ → SlotView
seat slot handle rect ox = record {
  slot = slot;
  view = record { sid = 0; handle = handle; rect = rect; ox = pos ox; oy = pos 0; title = [] };
}

-- A screen of 8 by 4. In front stands a view of 2 by 1 at (6, 0). Another view of the same session, of 4 by 2 at
-- (1, 1), moves the session's buffer of 4 by 2 by one column.
abbrev two_views : StackModel
two_views = record {
  views = seat 1 2 (rectangle (pos 6) (pos 0) 2 1) 0 ∷ seat 0 1 (rectangle (pos 1) (pos 1) 4 2) 1 ∷ [];
  sizes = record { w = 4; h = 2 } ∷ [];
  layers = 0 ∷ [];
  width = 8;
  height = 4;
  bar = 0;
  most = 2;
}

bare_corner : source_of_number two_views 0 ≡ Bare
bare_corner = refl

black_column : source_of_number two_views 9 ≡ Black
black_column = refl

first_word : source_of_number two_views 10 ≡ Word 0 0
first_word = refl

second_row : source_of_number two_views 20 ≡ Word 0 6
second_row = refl

front_view : source_of_number two_views 7 ≡ Word 0 1
front_view = refl

-- the pixels of the view behind
abbrev behind : Rectangle
behind = rectangle (pos 1) (pos 1) 4 2

has_its_last : has_pixel 8 behind 20 ≡ true
has_its_last = refl

not_the_next : has_pixel 8 behind 21 ≡ false
not_the_next = refl

-- of its words one pixel of the view shows the first, and none the last of a row
once_behind : times_shown (source_of_number two_views) (has_pixel 8 behind) 0 0 32 ≡ 1
once_behind = refl

none_of_the_last : times_shown (source_of_number two_views) (has_pixel 8 behind) 0 3 32 ≡ 0
none_of_the_last = refl

none_of_another : times_shown (source_of_number two_views) (has_pixel 8 behind) 1 0 32 ≡ 0
none_of_another = refl

-- the whole screen shows the first word twice
twice_on_the_screen : times_shown (source_of_number two_views) (λ k. true) 0 0 32 ≡ 2
twice_on_the_screen = refl

two_loads : loads_at 4 ((4, 7) ∷ (5, 7) ∷ (4, 9) ∷ []) ≡ 2
two_loads = refl
