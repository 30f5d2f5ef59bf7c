-- The outermost columns and rows in which two pictures differ.
use Rattle.std.specs.Prelude.{◌≡◌, ◌≤◌, ◌<◌, ◌+◌, ◌-◌, ◌*◌, ◌/◌, ◌%◌, ℕ, pos, List, Option, Some}
use Rattle.nit_look.specs.Below.{Edges, None, Rectangle, drop, rectangle, slice_index, take}
use Rattle.nit_look.specs.Span.{Differs}

-- a row of a picture
abbrev pub picture_row : ℕ → ℕ → List ℕ → List ℕ
picture_row width row a = take width (drop (row * width) a)

-- two pictures differ at one of the first so many pixels, in whose column and row the test holds
abbrev pub DiffersWhere : ℕ → ℕ → List ℕ → List ℕ → (ℕ → ℕ → Type 0) → Type 0
DiffersWhere width count a b test =
    (k : ℕ) × (k < count) × Differs a b k × test (k % width) (k / width)

-- the column and the row lie between the edges
pub record IsBetween (e : Edges) (x y : ℕ) : Type 0 where
  pub left : e.left ≤ x
  pub right : x ≤ e.right
  pub top : e.top ≤ y
  pub bottom : y ≤ e.bottom

-- of the first so many pixels those that differ lie between the edges, and some lie at each of them
pub record Bound (width count : ℕ) (a b : List ℕ) (e : Edges) : Type 0 where
  pub held : (k : ℕ) → k < count → Differs a b k → IsBetween e (k % width) (k / width)
  pub left : DiffersWhere width count a b (λ x y. x ≡ e.left)
  pub right : DiffersWhere width count a b (λ x y. x ≡ e.right)
  pub top : DiffersWhere width count a b (λ x y. y ≡ e.top)
  pub bottom : DiffersWhere width count a b (λ x y. y ≡ e.bottom)

-- the edges of the first so many rows, where these differ
abbrev pub AreEdges : ℕ → ℕ → List ℕ → List ℕ → Option Edges → Type 0
AreEdges width rows a b (Some e) = Bound width (rows * width) a b e
AreEdges width rows a b None = (k : ℕ) → k < rows * width → slice_index a k ≡ slice_index b k

-- the rectangle that the edges bound
abbrev pub rectangle_between : Edges → Rectangle
rectangle_between e =
    rectangle (pos e.left) (pos e.top) (e.right - e.left + 1) (e.bottom - e.top + 1)
