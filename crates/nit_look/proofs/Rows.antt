-- One row more of two pictures.
use Rattle.nit_look.proofs.Basics.{AreEdges, Bound, Differs, DiffersWhere, Edges, IsBetween, IsSpan}
use Rattle.nit_look.proofs.Basics.{List, None, Option, Some, Span, ap, arith, cases_lt, div-mul-add}
use Rattle.nit_look.proofs.Basics.{div_below, inl, inr, max, min, mod-mul-add, nat_tests}
use Rattle.nit_look.proofs.Basics.{picture_row, refl, slice_index}
use Rattle.std.proofs.Common.{sym, ℕ, ◌%◌, ◌*◌, ◌+◌, ◌-◌, ◌/◌, ◌<◌, ◌∙◌, ◌≡◌, ◌≤◌}
use Rattle.nit_look.proofs.Merging.{differs_in, word_in}

-- where a pixel lies of the row after so many rows
pub record InRow (width row k : ℕ) : Type 0 where
  pub below : k - row * width < width
  pub is : row * width + (k - row * width) ≡ k
  pub column : k % width ≡ k - row * width
  pub row_is : k / width ≡ row

next_row : (row width : ℕ) → (row + 1) * width ≡ row * width + width
next_row row width = omega arith

pub in_row : (width row k : ℕ) → row * width ≤ k → k < (row + 1) * width → InRow width row k
in_row width row k low high =
    let below : k - row * width < width = omega (arith, next_row row width) in
    let is : row * width + (k - row * width) ≡ k = omega arith in
    record {
      below = below;
      is = is;
      column = rw is at (mod-mul-add row width (k - row * width) below);
      row_is = rw is at (div-mul-add row width (k - row * width) below);
    }

pub row_above : (width row k : ℕ) → k < row * width → k / width < row
row_above width row k lt = elim (cases_lt 0 width) [
  | inl some ↦ div_below k width row some lt
  | inr none ↦ let z : width ≡ 0 = omega arith in absurd (omega (arith, rw z at lt))
]

-- ---- edges of pictures that agree

module _ (width rows height : ℕ) (a a' b : List ℕ) (le : rows * width ≤ height * width)
    (same : (k : ℕ) → k < rows * width → slice_index a' k ≡ slice_index a k) where
  kept_where : (P : ℕ → ℕ → Type 0) → DiffersWhere width (rows * width) a b P
      → DiffersWhere width (height * width) a' b P
  kept_where P w = (w.0, omega (arith, w.1), (λ e. w.2 (sym (same w.0 w.1) ∙ e)), w.3)

  -- nothing differs in the rows below
  pub kept_edges : (e : Option Edges)
      → ((k : ℕ) → rows * width ≤ k → k < height * width → slice_index a' k ≡ slice_index b k)
      → AreEdges width rows a b e → AreEdges width height a' b e
  kept_edges (Some e) below is = record {
    held = λ k lt differs. elim (cases_lt k (rows * width)) [
      | inl low ↦ is.held k low (λ eq. differs (same k low ∙ eq))
      | inr far ↦ absurd (differs (below k far lt))
    ];
    left = kept_where (λ x y. x ≡ e.left) is.left;
    right = kept_where (λ x y. x ≡ e.right) is.right;
    top = kept_where (λ x y. y ≡ e.top) is.top;
    bottom = kept_where (λ x y. y ≡ e.bottom) is.bottom;
  }
  kept_edges None below is = λ k lt. elim (cases_lt k (rows * width)) [
    | inl low ↦ same k low ∙ is k low
    | inr far ↦ below k far lt
  ]

-- ---- a row more

module _ (width row : ℕ) (a b : List ℕ) where
  -- a difference in the row is one of the picture
  found : (j : ℕ) (P : ℕ → ℕ → Type 0) → Differs (picture_row width row a) (picture_row width row b) j → P j row
      → DiffersWhere width ((row + 1) * width) a b P
  found j P differs holds =
      let at = differs_in a b (row * width) width j differs in (
        row * width + j,
        omega (arith, next_row row width),
        at.1,
        rw (mod-mul-add row width j at.0, div-mul-add row width j at.0) holds,
      )

  -- a difference in the rows is one above the row or in it
  held_more : (e : Edges) → ((k : ℕ) → k < row * width → Differs a b k → IsBetween e (k % width) (k / width))
      → ((j : ℕ) → Differs (picture_row width row a) (picture_row width row b) j → IsBetween e j row)
      → (k : ℕ) → k < (row + 1) * width → Differs a b k → IsBetween e (k % width) (k / width)
  held_more e above here k lt differs = elim (cases_lt k (row * width)) [
    | inl low ↦ above k low differs
    | inr high ↦
        let at = in_row width row k high lt in
        rw (at.column, at.row_is) (here (k - row * width) (grind (
          arith,
          nat_tests,
          word_in a (row * width) width (k - row * width),
          word_in b (row * width) width (k - row * width),
        )))
  ]

  pub nothing_more : (e : Option Edges) → AreEdges width row a b e → picture_row width row a ≡ picture_row width row b
      → AreEdges width (row + 1) a b e
  nothing_more e is same = kept_edges width row (row + 1) a a b (omega (arith, next_row row width)) (λ k lt. refl) e
      (λ k low lt.
      let at = in_row width row k low lt in
      let word = ap (λ (l : List ℕ). slice_index l (k - row * width)) same in
      grind (
        arith,
        nat_tests,
        word_in a (row * width) width (k - row * width),
        word_in b (row * width) width (k - row * width),
      )) is

  pub first_found : (s : Span) → AreEdges width row a b None
      → IsSpan (picture_row width row a) (picture_row width row b) (Some s)
      → Bound width ((row + 1) * width) a b (record { left = s.first; right = s.last; top = row; bottom = row })
  first_found s is span = record {
    held = held_more _ (λ k lt differs. absurd (differs (is k lt))) (λ j differs. grind (arith, span.held j));
    left = found s.first (λ x y. x ≡ s.first) span.first refl;
    right = found s.last (λ x y. x ≡ s.last) span.last refl;
    top = found s.first (λ x y. y ≡ row) span.first refl;
    bottom = found s.first (λ x y. y ≡ row) span.first refl;
  }

  pub more_found : (left right : ℕ) (e : Edges) (s : Span) → left ≡ min e.left s.first → right ≡ max e.right s.last
      → AreEdges width row a b (Some e) → IsSpan (picture_row width row a) (picture_row width row b) (Some s)
      → Bound width ((row + 1) * width) a b (record { left = left; right = right; top = e.top; bottom = row })
  more_found left right e s least most is span =
      let still = kept_where width row (row + 1) a a b (omega (arith, next_row row width)) (λ k lt. refl) in
      record {
        held = held_more _
            (λ k lt differs. let at = is.held k lt differs in grind (arith, row_above width row k lt))
            (λ j differs. grind (arith, span.held j, is.top.3, row_above width row is.top.0 is.top.1));
        left = elim (cases_lt e.left s.first) [
          | inl lt ↦ let old : left ≡ e.left = omega arith in rw old (still (λ x y. x ≡ e.left) is.left)
          | inr le ↦ found s.first (λ x y. x ≡ left) span.first (omega arith)
        ];
        right = elim (cases_lt s.last e.right) [
          | inl lt ↦ let old : right ≡ e.right = omega arith in rw old (still (λ x y. x ≡ e.right) is.right)
          | inr le ↦ found s.last (λ x y. x ≡ right) span.last (omega arith)
        ];
        top = still (λ x y. y ≡ e.top) is.top;
        bottom = found s.first (λ x y. y ≡ row) span.first refl;
      }
