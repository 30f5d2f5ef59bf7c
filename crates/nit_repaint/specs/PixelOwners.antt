-- What owns and what shows a pixel of a stack of views with slots.
use Rattle.std.specs.Prelude.{ℕ, ◌==◌, Bool, false, ◌&&◌}
use Rattle.nit_repaint.specs.Below.{PixelSource, Point, Rectangle, SlotView, StackModel, Word}
use Rattle.nit_repaint.specs.Below.{covers, option_map_or, owner_in, pixel, size_of, source}
use Rattle.nit_repaint.specs.Below.{views_of}

-- the view that owns the pixel passes this test
abbrev pub owner_passes : (SlotView → Bool) → StackModel → Point → Bool
owner_passes test s p = option_map_or test (owner_in (λ a. a.view) s.bar s.views p) false

-- where the word of a pixel comes from
abbrev pub source_in : StackModel → Point → PixelSource
source_in s p = source (size_of s.sizes) s.bar (views_of s.views) p

-- the source is a word of the session's buffer, which has so many columns, and its place lies in
-- this part of it
abbrev pub is_word_in : ℕ → ℕ → Rectangle → PixelSource → Bool
is_word_in sid columns part (Word t i) = (t == sid) && covers part (pixel columns i)
is_word_in sid columns part other = false
