-- A rectangle round a cut, with strips at its left and right that go from top to bottom.
use Rattle.std.proofs.Common.{Bool, arith, pos, refl, ℕ, ℤ, ◌&&◌, ◌+◌, ◌-◌, ◌≡◌, ◌≤◌, if◌then◌else◌}
use Rattle.nit_damage.proofs.Basics.{Edges, Point, Rectangle, ints, rectangle_of, spans}
use Rattle.nit_damage.proofs.Basics.{times, times_among, times_round}

-- columns and rows that are divided into three parts each
parts : (a a1 a2 a3 d d1 d2 d3 : Bool)
    → (if a then 1 else 0) ≡ (if a1 then 1 else 0) + (if a3 then 1 else 0) + (if a2 then 1 else 0)
    → (if d then 1 else 0) ≡ (if d1 then 1 else 0) + (if d3 then 1 else 0) + (if d2 then 1 else 0)
    → (if a && d then 1 else 0) ≡ (if a2 && d1 then 1 else 0) + (if a1 && d then 1 else 0)
    + (if a3 && d then 1 else 0) + (if a2 && d3 then 1 else 0) + (if a2 && d2 then 1 else 0)
parts a a1 a2 a3 d d1 d2 d3 across down = grind arith

-- places from one edge to another, round those of a cut
round : (from cut behind end : ℕ) (at : ℤ) → from ≤ cut → cut ≤ behind → behind ≤ end
    → times_among (pos from) (end - from) at
    ≡ times_among (pos from) (cut - from) at + times_among (pos behind) (end - behind) at
    + times_among (pos cut) (behind - cut) at
round from cut behind end at begins some ends =
    times_round (pos from) (pos from) (pos cut) (pos behind) at (end - from) (cut - from) (behind - cut) (end - behind) refl
    (omega (arith, ints)) (omega (arith, ints)) (omega arith)

abbrev edges_of : ℕ → ℕ → ℕ → ℕ → Edges
edges_of left top right bottom = record { left = left; top = top; right = right; bottom = bottom }

pub upright_divided : (all cut : Edges) (p : Point) → all.left ≤ cut.left → cut.left ≤ cut.right → cut.right ≤ all.right
    → all.top ≤ cut.top → cut.top ≤ cut.bottom → cut.bottom ≤ all.bottom
    → times (rectangle_of all) p
    ≡ times (rectangle_of (edges_of cut.left all.top cut.right cut.top)) p
    + times (rectangle_of (edges_of all.left all.top cut.left all.bottom)) p
    + times (rectangle_of (edges_of cut.right all.top all.right all.bottom)) p
    + times (rectangle_of (edges_of cut.left cut.bottom cut.right all.bottom)) p
    + times (rectangle_of cut) p
upright_divided all cut p left wide right top tall bottom =
    parts (spans (pos all.left) (all.right - all.left) p.x) (spans (pos all.left) (cut.left - all.left) p.x)
    (spans (pos cut.left) (cut.right - cut.left) p.x) (spans (pos cut.right) (all.right - cut.right) p.x)
    (spans (pos all.top) (all.bottom - all.top) p.y) (spans (pos all.top) (cut.top - all.top) p.y)
    (spans (pos cut.top) (cut.bottom - cut.top) p.y) (spans (pos cut.bottom) (all.bottom - cut.bottom) p.y)
    (round all.left cut.left cut.right all.right p.x left wide right)
    (round all.top cut.top cut.bottom all.bottom p.y top tall bottom)

-- a rectangle is the one of its edges
pub edges_are : (r : Rectangle) (e : Edges) → r.x ≡ pos e.left → r.y ≡ pos e.top → e.right ≡ e.left + r.w
    → e.bottom ≡ e.top + r.h → rectangle_of e ≡ r
edges_are r e left top right bottom =
    let w : e.right - e.left ≡ r.w = omega arith in
    let h : e.bottom - e.top ≡ r.h = omega arith in
    rw (← left, ← top, w, h) refl
