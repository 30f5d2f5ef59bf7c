-- Pieces of the screen, and what their pixels show.
use Rattle.std.specs.Prelude.{◌≡◌, ◌≤◌, ℕ, pos, ◌+ℤ◌, ◌≤ℤ◌, Bool, IsTrue}
use Rattle.nit_paint.specs.Below.{IsScreenRectangle, Piece, PixelSource, Point, Rectangle, Sight}
use Rattle.nit_paint.specs.Below.{StackModel, covers, option_map, owner_in, pixel, size_of, source}
use Rattle.nit_paint.specs.Below.{view_ref, views_of, word_count}

-- the source of the pixel of a number
abbrev pub source_of_number : StackModel → ℕ → PixelSource
source_of_number s k = source (size_of s.sizes) s.bar (views_of s.views) (pixel s.width k)

-- the rectangle has the pixel of a number, on a screen of this width
abbrev pub has_pixel : ℕ → Rectangle → ℕ → Bool
has_pixel width r k = covers r (pixel width k)

-- The piece lies on the screen, and each of its pixels has the owner that it names, or no owner
-- where it names none.
pub record IsPiece (s : StackModel) (piece : Piece) : Type 0 where
  pub screen : IsScreenRectangle piece.rect
  pub right : (piece.rect.x +ℤ pos piece.rect.w) ≤ℤ pos s.width
  pub bottom : (piece.rect.y +ℤ pos piece.rect.h) ≤ℤ pos s.height
  pub owned : (p : Point) → IsTrue (covers piece.rect p)
      → option_map view_ref (owner_in (λ seat. seat.view) s.bar s.views p) ≡ piece.owner

-- each session has a word for each of its buffer's
abbrev pub HoldBuffers : StackModel → (ℕ → Sight) → Type 0
HoldBuffers s sights = (t : ℕ) → word_count (size_of s.sizes t) ≤ (sights t).size
