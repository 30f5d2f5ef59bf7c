-- The part of a picture that was copied, and the rectangle of what differed.
use Rattle.nit_look.proofs.Basics.{AgreeIn, AgreeOutside, AreEdges, Bound, Differs, Edges, IsMerged}
use Rattle.nit_look.proofs.Basics.{LiesOn, List, None, Option, arith, cases_Bool, ext_get_or, false}
use Rattle.nit_look.proofs.Basics.{inl, inr, ints, is_in_rows, le-div_iff_mul-le, mul-le, nat_tests}
use Rattle.nit_look.proofs.Basics.{place_at, pos, rectangle_between}
use Rattle.std.proofs.Common.{length, refl, sym, true, ℕ, ◌*◌, ◌+◌, ◌/◌, ◌∙◌, ◌≡◌, ◌≤◌}
use Rattle.nit_rect.specs.Rectangle.{Rectangle, covers}
use Rattle.nit_look.proofs.Rows.{kept_edges}
use Rattle.nit_look.proofs.Rectangles.{ordered}
use Rattle.nit_look.proofs.Merging.{by_test}

-- the columns from left to right and the rows from top to bottom are those of a part, and were copied
pub record IsCopied (width left right top bottom : ℕ) (part : Rectangle) (frame old new : List ℕ) : Type 0 where
  pub x : pos left ≡ part.x
  pub w : right ≡ left + part.w
  pub y : pos top ≡ part.y
  pub h : bottom ≡ top + part.h
  pub merged : IsMerged (is_in_rows width left right top bottom) frame old new

covers_rows : (width k left right top bottom : ℕ) (part : Rectangle) → pos left ≡ part.x → right ≡ left + part.w
    → pos top ≡ part.y → bottom ≡ top + part.h
    → covers part (place_at width k) ≡ is_in_rows width left right top bottom k
covers_rows width k left right top bottom part x w y h = rw (w, h, ← x, ← y)

module _ {width left right top bottom : ℕ} {part : Rectangle} {frame old new : List ℕ}
    (is : IsCopied width left right top bottom part frame old new) where
  tested : (k : ℕ) → covers part (place_at width k) ≡ is_in_rows width left right top bottom k
  tested k = covers_rows width k left right top bottom part is.x is.w is.y is.h

  pub copied_in : AgreeIn width new frame part
  copied_in k inside = by_test _ frame old new k true is.merged (sym (tested k) ∙ inside)

  pub kept_outside : AgreeOutside width new old part
  kept_outside k outside = by_test _ frame old new k false is.merged (sym (tested k) ∙ outside)

  pub whole_frame : length new ≡ length frame → AgreeOutside width old frame part → new ≡ frame
  whole_frame long agree = ext_get_or 0 new frame long (λ k lt. elim (cases_Bool (covers part (place_at width k))) [
    | inl e ↦ copied_in k e
    | inr e ↦ kept_outside k e ∙ agree k e
  ])

  -- what differs lies in the part
  in_part : (k : ℕ) → Differs new old k → is_in_rows width left right top bottom k ≡ true
  in_part k differs = grind (arith, is.merged k)

  pub shown_between : (height : ℕ) (e : Edges) → Bound width (height * width) new old e
      → AgreeIn width new frame (rectangle_between e)
  shown_between height e bound k inside =
      let order = ordered width _ new old e bound in
      let l = in_part bound.left.0 bound.left.2 in
      let r = in_part bound.right.0 bound.right.2 in
      let t = in_part bound.top.0 bound.top.2 in
      let b = in_part bound.bottom.0 bound.bottom.2 in
      by_test _ frame old new k true is.merged (grind (arith, nat_tests))

  pub all_edges : (height : ℕ) (e : Option Edges) → 1 ≤ width → LiesOn width height part
      → AreEdges width bottom new old e → AreEdges width height new old e
  all_edges height e some lies =
      let y = is.y in
      let low : bottom ≤ height = omega (arith, ints, is.h, lies.bottom) in
      kept_edges width bottom height new new old (mul-le bottom width height width low (omega arith)) (λ k lt. refl)
      e
      (λ k far lt.
      let y : bottom ≤ k / width = (le-div_iff_mul-le some).1 far in
      grind (arith, nat_tests, is.merged k))

pub none_differs : (width height : ℕ) (a b : List ℕ) → length a ≡ height * width → length b ≡ height * width
    → AreEdges width height a b None → b ≡ a
none_differs width height a b long_a long_b is =
    ext_get_or 0 b a (long_b ∙ sym long_a) (λ k lt. sym (is k (omega arith)))
