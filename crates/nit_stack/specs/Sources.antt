-- Who owns a pixel of the screen, and where its word comes from. A stack of views is a list, front
-- first.
use Rattle.std.specs.Prelude.{ℕ, ◌+◌, ◌*◌, ◌/◌, ◌%◌, Bool, nat_lt, ℤ, pos, negsuc, ◌-ℤ◌, int_lt}
use Rattle.std.specs.Prelude.{List, find, Option, Some, None, if◌then◌else◌}
use Rattle.nit_stack.specs.Below.{Point, View, covers}

-- the pixel in this column and row
abbrev pub point : ℕ → ℕ → Point
point x y = record { x = pos x; y = pos y }

-- the pixel of a number, row by row from the top, on a screen of this width
abbrev pub pixel : ℕ → ℕ → Point
pixel width k = point (k % width) (k / width)

-- the status bar is the topmost rows of the screen, as many as it has
abbrev pub in_bar : ℕ → Point → Bool
in_bar rows p = int_lt p.y (pos rows)

-- the first of a list whose view covers the pixel
abbrev pub covering : {A : Type 0} → (A → View) → List A → Point → Option A
covering view stack p = find (λ a. covers (view a).rect p) stack

-- a pixel in the bar has no owner, and any other is owned by the front-most view that covers it
abbrev pub owner_in : {A : Type 0} → (A → View) → ℕ → List A → Point → Option A
owner_in view rows stack p = if in_bar rows p then None else covering view stack p

-- the view that owns a pixel
abbrev pub owner : ℕ → List View → Point → Option View
owner rows stack p = owner_in (λ v. v) rows stack p

-- how many columns and rows a buffer has
pub record Size : Type 0 where
  pub w : ℕ
  pub h : ℕ

-- the size before a buffer was asked for
abbrev pub no_size : Size
no_size = record { w = 0; h = 0 }

-- a number, where it is a place among so many
abbrev pub among : ℤ → ℕ → Option ℕ
among (pos n) most = if nat_lt n most then Some n else None
among (negsuc n) most = None

-- a column or row of the screen as one of the buffer: counted from the corner and from the offset
abbrev pub buffer_place : ℤ → ℤ → ℤ → ℤ
buffer_place at corner offset = (at -ℤ corner) -ℤ offset

-- the index of a buffer's word, by its column and row, where the buffer has these
abbrev pub index_at : ℕ → Option ℕ → Option ℕ → Option ℕ
index_at columns (Some x) (Some y) = Some (y * columns + x)
index_at columns (Some x) None = None
index_at columns None y = None

-- which word of its session's buffer a view shows at a pixel, where the buffer reaches so far
abbrev pub shown_index : Size → View → Point → Option ℕ
shown_index size v p =
    index_at size.w (among (buffer_place p.x v.rect.x v.ox) size.w)
    (among (buffer_place p.y v.rect.y v.oy) size.h)

-- Where the word of a pixel comes from: it is the bare screen's where the pixel has no owner, black
-- where the owner reaches past its session's buffer, and otherwise a word of a session's buffer.
pub data PixelSource : Type 0 where
  Bare : PixelSource
  Black : PixelSource
  Word : (session : ℕ) → (index : ℕ) → PixelSource

abbrev pub black_or_word : ℕ → Option ℕ → PixelSource
black_or_word session None = Black
black_or_word session (Some index) = Word session index

abbrev pub source_under : (ℕ → Size) → Point → Option View → PixelSource
source_under sizes p None = Bare
source_under sizes p (Some v) = black_or_word v.sid (shown_index (sizes v.sid) v p)

-- the source of a pixel, by the sizes of the sessions' buffers
abbrev pub source : (ℕ → Size) → ℕ → List View → Point → PixelSource
source sizes rows stack p = source_under sizes p (owner rows stack p)
