-- What rectangles cover together.
use Rattle.std.specs.Prelude.{◌≡◌, ◌<◌, false, ◌&&◌, pos, IsTrue}
use Rattle.nit_rect.specs.Rectangle.{Rectangle, rectangle, covers}
use Rattle.nit_rect.specs.Below.{Point}

-- the rectangle that stands for no pixels
abbrev pub empty_rectangle : Rectangle
empty_rectangle = rectangle (pos 0) (pos 0) 0 0

-- a rectangle that covers some pixel
abbrev pub HasPixels : Rectangle → Type 0
HasPixels r = (0 < r.w) × (0 < r.h)

-- no pixel lies in both
abbrev pub IsApart : Rectangle → Rectangle → Type 0
IsApart a b = (p : Point) → (covers a p && covers b p) ≡ false

-- a pixel lies in the third exactly where it lies in both
abbrev pub CoversBoth : Rectangle → Rectangle → Rectangle → Type 0
CoversBoth a b both = (p : Point) → covers both p ≡ (covers a p && covers b p)

-- each pixel of the first lies in the second
abbrev pub LiesIn : Rectangle → Rectangle → Type 0
LiesIn a b = (p : Point) → IsTrue (covers a p) → IsTrue (covers b p)
