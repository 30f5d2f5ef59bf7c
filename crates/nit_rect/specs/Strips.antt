-- A rectangle of the screen, divided into strips round a cut.
use Rattle.std.specs.Prelude.{◌≡◌, ℕ, ◌+◌, ℤ, pos, ◌+ℤ◌, ◌≤ℤ◌, if◌then◌else◌}
use Rattle.nit_rect.specs.Rectangle.{Rectangle, spans, covers}
use Rattle.nit_rect.specs.Below.{Point}
use Rattle.nit_rect.specs.declared.strips.Strips.{Strips}
use Rattle.nit_rect.specs.Limits.{most_width, most_height}

-- it lies in the box from (0, 0) to below (4096, 4096)
pub record IsScreenRectangle (r : Rectangle) : Type 0 where
  pub left : pos 0 ≤ℤ r.x
  pub top : pos 0 ≤ℤ r.y
  pub right : (r.x +ℤ pos r.w) ≤ℤ pos most_width
  pub bottom : (r.y +ℤ pos r.h) ≤ℤ pos most_height

-- how often a rectangle has the pixel: once or not at all
abbrev pub times : Rectangle → Point → ℕ
times r p = if covers r p then 1 else 0

-- the four strips and the cut have each pixel of the rectangle once, and no other
abbrev pub IsDivided : Rectangle → Rectangle → Strips → Type 0
IsDivided r cut s =
    (p : Point)
    → times r p
    ≡ times s.top p + times s.left p + times s.right p + times s.bottom p + times cut p

-- how often the places from `from` on have this one
abbrev pub times_among : ℤ → ℕ → ℤ → ℕ
times_among from long at = if spans from long at then 1 else 0
