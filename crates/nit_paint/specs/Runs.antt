-- Pixels that stand side by side, and what they show of one row of a buffer.
use Rattle.std.specs.Prelude.{◌≡◌, ℕ, ◌+◌, ◌-◌, ◌*◌, ◌&&◌, Bool, nat_le, nat_lt, pos, ◌+ℤ◌, ◌≤ℤ◌}
use Rattle.std.specs.Prelude.{Option, Some, None, if◌then◌else◌}
use Rattle.nit_paint.specs.Below.{Bare, Black, PixelSource, Word, bare_word, black_or_word}
use Rattle.nit_paint.specs.Below.{rectangle, ℤ}
use Rattle.nit_paint.specs.declared.reach.Reach.{Reach}
use Rattle.nit_paint.specs.declared.block.Block.{Block}
use Rattle.nit_paint.specs.Pieces.{has_pixel}

-- the pixel is one of so many from `at` on
abbrev pub in_run : ℕ → ℕ → ℕ → Bool
in_run at count k = nat_le at k && nat_lt k (at + count)

-- the word of a pixel for which none is loaded
abbrev pub own_word : PixelSource → Option ℕ
own_word Bare = Some bare_word
own_word Black = Some 0
own_word (Word t i) = None

-- the buffer's column that the pixel at place j of a row shows, where the buffer reaches so far
abbrev pub reached : Reach → ℕ → Option ℕ
reached r j =
    if nat_lt j r.before then None
    else (if nat_lt j (r.before + r.words) then Some (r.from + (j - r.before)) else None)

-- how many pixels the row has
abbrev pub long : Reach → ℕ
long r = r.before + r.words + r.after

-- the index of a word, by the index of its row's first word and by its column, where there are
-- these
abbrev pub index_from : Option ℕ → Option ℕ → Option ℕ
index_from (Some start) (Some column) = Some (start + column)
index_from (Some start) None = None
index_from None column = None

-- what the pixel at place j of a row shows of a session's buffer
abbrev pub row_source : ℕ → Reach → Option ℕ → ℕ → PixelSource
row_source sid r start j = black_or_word sid (index_from start (reached r j))

-- the pixel lies in the first so many rows of the block
abbrev pub in_rows : Block → ℕ → ℕ → Bool
in_rows b rows k = has_pixel b.width (rectangle (pos b.left) (pos b.top) b.wide rows) k

-- the number of the first pixel of a row of the block
abbrev pub row_at : Block → ℕ → ℕ
row_at b j = (b.top + j) * b.width + b.left

-- the block's rows are whole rows of the screen, and show whole rows of a buffer of w columns and
-- h rows, from its row `row` on
abbrev pub ShowsWholeRows : Block → Reach → ℤ → ℕ → ℕ → Type 0
ShowsWholeRows b r row w h =
    ((r.words ≡ b.width) × (w ≡ b.width)) × ((pos 0 ≤ℤ row) × ((row +ℤ pos b.tall) ≤ℤ pos h))
