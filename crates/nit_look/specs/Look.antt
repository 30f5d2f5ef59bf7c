-- The least rectangle that has all pixels at which two pictures differ.
use Rattle.std.specs.Prelude.{◌≡◌, ◌%◌, ◌/◌, ℕ, List, IsTrue, pos, ◌+ℤ◌, ◌≤ℤ◌, false, true}
use Rattle.nit_look.specs.Below.{Point, Rectangle, covers, slice_index}
use Rattle.nit_look.specs.Span.{Differs}

-- the pixel of a number, row by row from the top, on a screen of this width
abbrev pub place_at : ℕ → ℕ → Point
place_at width k = record { x = pos (k % width); y = pos (k / width) }

-- it lies on the screen of this width and height
pub record LiesOn (width height : ℕ) (r : Rectangle) : Type 0 where
  pub left : pos 0 ≤ℤ r.x
  pub top : pos 0 ≤ℤ r.y
  pub right : (r.x +ℤ pos r.w) ≤ℤ pos width
  pub bottom : (r.y +ℤ pos r.h) ≤ℤ pos height

-- it covers each pixel at which the pictures differ
abbrev pub CoversChange : ℕ → List ℕ → List ℕ → Rectangle → Type 0
CoversChange width a b r = (k : ℕ) → Differs a b k → IsTrue (covers r (place_at width k))

-- the pictures differ at a pixel for which the test holds
abbrev pub DiffersAt : ℕ → List ℕ → List ℕ → (Point → Type 0) → Type 0
DiffersAt width a b test = (k : ℕ) × Differs a b k × test (place_at width k)

-- they differ at a pixel in its first column, in its last, in its first row and in its last
pub record IsTouched (width : ℕ) (a b : List ℕ) (r : Rectangle) : Type 0 where
  pub left : DiffersAt width a b (λ p. p.x ≡ r.x)
  pub right : DiffersAt width a b (λ p. (p.x +ℤ pos 1) ≡ (r.x +ℤ pos r.w))
  pub top : DiffersAt width a b (λ p. p.y ≡ r.y)
  pub bottom : DiffersAt width a b (λ p. (p.y +ℤ pos 1) ≡ (r.y +ℤ pos r.h))

-- they agree at each pixel in it
abbrev pub AgreeIn : ℕ → List ℕ → List ℕ → Rectangle → Type 0
AgreeIn width a b r =
    (k : ℕ) → covers r (place_at width k) ≡ true → slice_index a k ≡ slice_index b k

-- they agree at each pixel outside of it
abbrev pub AgreeOutside : ℕ → List ℕ → List ℕ → Rectangle → Type 0
AgreeOutside width a b r =
    (k : ℕ) → covers r (place_at width k) ≡ false → slice_index a k ≡ slice_index b k
