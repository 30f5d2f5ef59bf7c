-- The edges of views at which a label stands.
use Rattle.std.specs.Prelude.{◌≡◌, ℕ, max, ℤ, pos, negsuc, ◌+ℤ◌, ◌≤ℤ◌, ◌⊎◌, List, Any}
use Rattle.nit_place.specs.Below.{Point, Rectangle, View, before_first, is_view}

-- a column or row, where it is on the screen or past its end; 0 where it is left of the screen or
-- above it
abbrev pub on_screen : ℤ → ℕ
on_screen (pos n) = n
on_screen (negsuc n) = 0

-- the first column right of a rectangle
abbrev pub right_of : Rectangle → ℤ
right_of r = r.x +ℤ pos r.w

-- the first row below a rectangle
abbrev pub bottom_of : Rectangle → ℤ
bottom_of r = r.y +ℤ pos r.h

-- the views in front of a view
abbrev pub in_front : View → List View → List View
in_front v stack = before_first (is_view v.sid v.handle) stack

-- the left column of a view's part on the screen, or the right edge of a view in front of it
abbrev pub IsColumn : List View → View → ℤ → Type 0
IsColumn stack v x =
    (x ≡ pos (on_screen v.rect.x)) ⊎ Any (λ u. x ≡ right_of u.rect) (in_front v stack)

-- the top row of a view's part on the screen below the bar, or the bottom of a view in front of it
abbrev pub IsRow : ℕ → List View → View → ℤ → Type 0
IsRow rows stack v y =
    (y ≡ pos (max (on_screen v.rect.y) rows)) ⊎ Any (λ u. y ≡ bottom_of u.rect) (in_front v stack)

-- the column and the row stand at such edges
pub record IsAtEdges (rows : ℕ) (stack : List View) (v : View) (q : Point) : Type 0 where
  pub column : IsColumn stack v q.x
  pub row : IsRow rows stack v q.y

-- a rectangle of w by h with its first pixel here lies on the screen
pub record IsWithinScreen (width height w h : ℕ) (q : Point) : Type 0 where
  pub left : pos 0 ≤ℤ q.x
  pub top : pos 0 ≤ℤ q.y
  pub right : (q.x +ℤ pos w) ≤ℤ pos width
  pub bottom : (q.y +ℤ pos h) ≤ℤ pos height
