-- Screens with one view, or with two.
use Rattle.std.specs.Prelude.{ℤ, pos, [], ◌∷◌}
use Rattle.nit_rect.specs.Rectangle.{Rectangle}
use Rattle.nit_stack.specs.Stack.{StackModel, empty_stack}

-- One view on a screen of 8 by 4: it has this rectangle and offset, and its session has a buffer of
-- 4 by 2
abbrev pub one_view : Rectangle → ℤ → ℤ → StackModel
one_view rect ox oy =
    record (empty_stack 8 4 1 1) {
      views = record {
        slot = 0;
        view = record { sid = 0; handle = 1; rect = rect; ox = ox; oy = oy; title = [] };
      } ∷ [];
      sizes = record { w = 4; h = 2 } ∷ [];
    }

-- Two views of two sessions on a screen of 12 by 7: these rectangles, with buffers of 12 by 7 and
-- of
-- 4 by 7 after them.
abbrev pub two_views : Rectangle → Rectangle → StackModel
two_views back front =
    record (empty_stack 12 7 2 2) {
      views = record {
        slot = 1;
        view = record { sid = 1; handle = 1; rect = front; ox = pos 0; oy = pos 0; title = [] };
      } ∷ record {
        slot = 0;
        view = record { sid = 0; handle = 1; rect = back; ox = pos 0; oy = pos 0; title = [] };
      } ∷ [];
      sizes = record { w = 12; h = 7 } ∷ record { w = 4; h = 7 } ∷ [];
    }
