-- The pixels of a session's views that are wanted.
use Rattle.std.specs.Prelude.{ℕ, Bool, true, false, ◌&&◌, take, Option, Some, None}
use Rattle.nit_repaint.specs.Below.{Point, Rectangle, Size, SlotView, StackModel, View, covers}
use Rattle.nit_repaint.specs.Below.{is_of_session, option_map_or, owner_in, pixel, shown_index}
use Rattle.nit_repaint.specs.Below.{size_of}
use Rattle.nit_repaint.specs.PixelOwners.{owner_passes}

-- the word at this index of a buffer of so many columns lies in a part of the buffer
abbrev pub is_index_in : Rectangle → ℕ → Option ℕ → Bool
is_index_in part columns None = false
is_index_in part columns (Some i) = covers part (pixel columns i)

-- all pixels of a view are wanted, or those that show this part of the session's buffer
abbrev pub wants : Option Rectangle → Size → View → Point → Bool
wants None size v p = true
wants (Some part) size v p = is_index_in part size.w (shown_index size v p)

-- the view is one of the session, and the pixel is wanted where this view owns it
abbrev pub is_wanted : ℕ → Option Rectangle → StackModel → Point → SlotView → Bool
is_wanted sid part s p x = is_of_session sid x && wants part (size_of s.sizes sid) x.view p

-- a view owns the pixel, and it is wanted
abbrev pub wanted : ℕ → Option Rectangle → StackModel → Point → Bool
wanted sid part s p = owner_passes (is_wanted sid part s p) s p

-- one of the first so many views owns the pixel, and it is wanted
abbrev pub wanted_of_first : ℕ → ℕ → Option Rectangle → StackModel → Point → Bool
wanted_of_first n sid part s p =
    option_map_or (is_wanted sid part s p) (owner_in (λ a. a.view) s.bar (take n s.views) p) false
