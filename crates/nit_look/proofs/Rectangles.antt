-- The rectangle that the edges of two pictures bound.
use Rattle.nit_look.proofs.Basics.{Bound, CoversChange, Differs, Edges, IfSome, IsTouched, LiesOn}
use Rattle.nit_look.proofs.Basics.{List, None, Option, Some, ap, arith, cases_lt, div_below}
use Rattle.nit_look.proofs.Basics.{get_or_past, inl, inr, ints, length, mod_below, nat_tests, pos}
use Rattle.nit_look.proofs.Basics.{rectangle_between}
use Rattle.std.proofs.Common.{sym, ℕ, ◌*◌, ◌<◌, ◌∙◌, ◌≡◌, ◌≤◌}

-- the place of a difference is one of the picture
inside : (count k : ℕ) (a b : List ℕ) → length a ≡ count → length b ≡ count → Differs a b k → k < count
inside count k a b long_a long_b differs = elim (cases_lt k count) [
  | inl lt ↦ lt
  | inr le ↦ absurd (differs (get_or_past a k 0 (omega arith) ∙ sym (get_or_past b k 0 (omega arith))))
]

-- no edge is beyond the one that it faces
pub ordered : (width count : ℕ) (a b : List ℕ) (e : Edges) → Bound width count a b e
    → (e.left ≤ e.right) × (e.top ≤ e.bottom)
ordered width count a b e is =
    let r = is.held is.right.0 is.right.1 is.right.2 in
    let d = is.held is.bottom.0 is.bottom.1 is.bottom.2 in
    (omega (arith, r.left, is.right.3), omega (arith, d.top, is.bottom.3))

module _ (width height : ℕ) (a b : List ℕ) (e : Edges) (is : Bound width (height * width) a b e) where
  pub covers_change : length a ≡ height * width → length b ≡ height * width
      → CoversChange width a b (rectangle_between e)
  covers_change long_a long_b k differs =
      let at = is.held k (inside (height * width) k a b long_a long_b differs) differs in
      grind (arith, nat_tests)

  pub touched : IsTouched width a b (rectangle_between e)
  touched =
      let order = ordered width _ a b e is in
      record {
        left = (is.left.0, is.left.2, ap pos is.left.3);
        right = (is.right.0, is.right.2, ap pos (omega (arith, order, is.right.3)));
        top = (is.top.0, is.top.2, ap pos is.top.3);
        bottom = (is.bottom.0, is.bottom.2, ap pos (omega (arith, order, is.bottom.3)));
      }

  -- the last edge is in the rows that have all
  pub bottom_below : 1 ≤ width → e.bottom < height
  bottom_below some = omega (arith, div_below is.bottom.0 width height some is.bottom.1, is.bottom.3)

  pub lies_on : 1 ≤ width → LiesOn width height (rectangle_between e)
  lies_on some =
      let order = ordered width _ a b e is in
      record {
        left = omega (arith, ints);
        top = omega (arith, ints);
        right = omega (arith, ints, order, is.right.3, mod_below is.right.0 width some);
        bottom = omega (arith, ints, order, bottom_below some);
      }

-- what holds of a value holds of what there is, where this can only be that value
pub holds_of_it : {A : Type 0} (P : A → Type 0) (found : Option A) (x : A) → IfSome found (λ y. y ≡ x) → P x
    → IfSome found P
holds_of_it P (Some y) x is holds = rw is holds
holds_of_it P None x is holds = tt
