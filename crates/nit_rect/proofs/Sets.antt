-- Rectangles by their columns and rows.
use Rattle.std.proofs.Common.{Bool, arith, false, if◌then◌else◌, inl, inr, sym, true, ℕ, ◌&&◌, ◌*◌}
use Rattle.std.proofs.Common.{◌+ℤ◌, ◌+◌, ◌-◌, ◌∙◌, ◌≡◌, ◌≤ℤ◌, ◌⊎◌}
use Rattle.nit_rect.proofs.Basics.{CoversBoth, HasPixels, IsApart, LiesIn, Point, Rectangle, covers}
use Rattle.nit_rect.proofs.Basics.{int_le, ints, pos, rectangle, spans, times, times_among, ℤ}
use mathlib.Core.Logic.{dite}
use native.Mathlib.Decide.{ℕ_discrete}

regrouped : (a b c d : Bool) → ((a && b) && (c && d)) ≡ ((a && c) && (b && d))
regrouped a b c d = grind arith

-- the columns and the rows that both have
pub covers_both : (a b : Rectangle) (x y : ℤ) (w h : ℕ)
    → ((at : ℤ) → spans x w at ≡ (spans a.x a.w at && spans b.x b.w at))
    → ((at : ℤ) → spans y h at ≡ (spans a.y a.h at && spans b.y b.h at))
    → CoversBoth a b (rectangle x y w h)
covers_both a b x y w h across down p = rw (across p.x, down p.y) (regrouped (spans a.x a.w p.x) _ _ _)

pub covers_none : (r : Rectangle) (p : Point) → (r.w ≡ 0) ⊎ (r.h ≡ 0) → covers r p ≡ false
covers_none r p none = grind (arith, ints)

abbrev corner : Rectangle → Point
corner r = record { x = r.x; y = r.y }

abbrev last_corner : Rectangle → Point
last_corner r = record { x = r.x +ℤ pos (r.w - 1); y = r.y +ℤ pos (r.h - 1) }

covers_corner : (r : Rectangle) → HasPixels r → covers r (corner r) ≡ true
covers_corner r some = grind (arith, ints)

covers_last_corner : (r : Rectangle) → HasPixels r → covers r (last_corner r) ≡ true
covers_last_corner r some = grind (arith, ints)

-- two rectangles that have a pixel in common are not apart
pub not_apart : (a b r : Rectangle) → CoversBoth a b r → HasPixels r → IsApart a b → ⊥
not_apart a b r both some apart =
    let e : true ≡ false = sym (covers_corner r some) ∙ both (corner r) ∙ apart (corner r) in
    cc

-- a rectangle within the edges of another
pub record IsWithin (a b : Rectangle) : Type 0 where
  pub left : b.x ≤ℤ a.x
  pub right : (a.x +ℤ pos a.w) ≤ℤ (b.x +ℤ pos b.w)
  pub top : b.y ≤ℤ a.y
  pub bottom : (a.y +ℤ pos a.h) ≤ℤ (b.y +ℤ pos b.h)

pub none_lie : (a b : Rectangle) → (a.w ≡ 0) ⊎ (a.h ≡ 0) → LiesIn a b
none_lie a b none p here = let e : true ≡ false = sym here ∙ covers_none a p none in cc

pub within : (a b : Rectangle) → HasPixels a → LiesIn a b → IsWithin a b
within a b some lie =
    let first = lie (corner a) (covers_corner a some) in
    let last = lie (last_corner a) (covers_last_corner a some) in
    grind (arith, ints)

-- the test of edges, one way
abbrev pub is_run_within : ℤ → ℕ → ℤ → ℕ → Bool
is_run_within x w x' w' = int_le x' x && int_le (x +ℤ pos w) (x' +ℤ pos w')

pub pixels_of : (r : Rectangle) → (r.w * r.h ≡ 0 → ⊥) → HasPixels r
pixels_of r area = (grind arith, grind arith)

pub no_pixels : (r : Rectangle) → r.w * r.h ≡ 0 → (r.w ≡ 0) ⊎ (r.h ≡ 0)
no_pixels r area = dite (ℕ_discrete r.w 0) inl (λ some. dite (ℕ_discrete r.h 0) inr (λ more. absurd (grind arith)))

pub lies_across : (a b : Rectangle) → HasPixels a → LiesIn a b → is_run_within a.x a.w b.x b.w ≡ true
lies_across a b some lie = let edges = within a b some lie in grind (arith, ints)

pub lies_down : (a b : Rectangle) → HasPixels a → LiesIn a b → is_run_within a.y a.h b.y b.h ≡ true
lies_down a b some lie = let edges = within a b some lie in grind (arith, ints)

pub tests_lie : (a b : Rectangle) → is_run_within a.x a.w b.x b.w ≡ true → is_run_within a.y a.h b.y b.h ≡ true
    → LiesIn a b
tests_lie a b across down p here = grind (arith, ints)

-- columns and rows that are divided into three parts each
parts : (a a1 a2 a3 d d1 d2 d3 : Bool)
    → (if a then 1 else 0) ≡ (if a1 then 1 else 0) + (if a3 then 1 else 0) + (if a2 then 1 else 0)
    → (if d then 1 else 0) ≡ (if d1 then 1 else 0) + (if d3 then 1 else 0) + (if d2 then 1 else 0)
    → (if a && d then 1 else 0) ≡ (if a && d1 then 1 else 0) + (if a1 && d2 then 1 else 0)
    + (if a3 && d2 then 1 else 0) + (if a && d3 then 1 else 0) + (if a2 && d2 then 1 else 0)
parts a a1 a2 a3 d d1 d2 d3 across down = grind arith

-- the strips and the cut, at one pixel
pub divided : (r cut : Rectangle) (left right top bottom : ℤ) (before after above below : ℕ) (p : Point)
    → times_among r.x r.w p.x ≡ times_among left before p.x + times_among right after p.x + times_among cut.x cut.w p.x
    → times_among r.y r.h p.y ≡ times_among top above p.y + times_among bottom below p.y + times_among cut.y cut.h p.y
    → times r p ≡ times (rectangle r.x top r.w above) p + times (rectangle left cut.y before cut.h) p + times
    (rectangle right cut.y after cut.h) p
    + times (rectangle r.x bottom r.w below) p + times cut p
divided r cut left right top bottom before after above below p across down =
    parts (spans r.x r.w p.x) (spans left before p.x) (spans cut.x cut.w p.x) (spans right after p.x)
    (spans r.y r.h p.y) (spans top above p.y) (spans cut.y cut.h p.y) (spans bottom below p.y) across down
