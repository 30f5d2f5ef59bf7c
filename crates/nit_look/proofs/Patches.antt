-- A picture, some columns of some rows of which were copied.
use Rattle.nit_look.proofs.Basics.{AreEdges, Edges, IsMerged, IsSpan, List, Option, Span, arith}
use Rattle.nit_look.proofs.Basics.{cases_lt, div-mul-add, ext_get_or, inl, inr, is_in_rows}
use Rattle.nit_look.proofs.Basics.{is_in_span, le-div_iff_mul-le, nat_tests, picture_row, places}
use Rattle.std.proofs.Common.{length, slice_index, ℕ, ◌*◌, ◌+◌, ◌-◌, ◌<◌, ◌≡◌, ◌≤◌}
use Rattle.nit_look.proofs.Merging.{word_in}
use Rattle.nit_look.proofs.Rows.{in_row, kept_edges, row_above}
use borrow.Rule.Slice.PartMut.{put_mid}

pub nothing_yet : (width left right top : ℕ) (frame old : List ℕ)
    → IsMerged (is_in_rows width left right top top) frame old old
nothing_yet width left right top frame old k = grind (arith, nat_tests)

-- ---- one row more

module _ (width left right top row wide : ℕ) (frame old out part : List ℕ) (some : 1 ≤ width) (order : top ≤ row)
    (so : wide ≡ width) (room : (row + 1) * width ≤ length frame) (long : length out ≡ length frame)
    (long_old : length old ≡ length frame) (held : length part ≡ width)
    (known : IsMerged (is_in_rows width left right top row) frame old out)
    (here : IsMerged (is_in_span left right) (picture_row width row frame) (picture_row width row out) part) where
  next : (row + 1) * width ≡ row * width + width
  next = omega arith

  kept_above : (k : ℕ) → k < row * width → slice_index (put_mid (row * width) wide out part) k ≡ slice_index out k
  kept_above k lt = grind (arith, places, next)

  kept_below : (k : ℕ) → (row + 1) * width ≤ k → slice_index (put_mid (row * width) wide out part) k
      ≡ slice_index out k
  kept_below k le = grind (arith, places, next)

  put_here : (j : ℕ) → j < width → slice_index (put_mid (row * width) wide out part) (row * width + j)
      ≡ slice_index part j
  put_here j lt = grind (arith, places, next)

  -- the row before it was copied is as it was at first
  row_old : picture_row width row out ≡ picture_row width row old
  row_old = ext_get_or 0 _ _ (grind (arith, places)) (λ j inside. grind (
    arith,
    nat_tests,
    div-mul-add row width j,
    word_in out (row * width) width j,
    word_in old (row * width) width j,
    known (row * width + j),
  ))

  row_put : picture_row width row (put_mid (row * width) wide out part) ≡ part
  row_put = ext_get_or 0 _ part (grind (arith, places, next)) (λ j inside. grind (
    arith,
    places,
    nat_tests,
    next,
    word_in (put_mid (row * width) wide out part) (row * width) width j,
    put_here j,
  ))

  merged_more : IsMerged (is_in_rows width left right top (row + 1)) frame old (put_mid (row * width) wide out part)
  merged_more k = elim (cases_lt k (row * width)) [
    | inl low ↦ grind (arith, nat_tests, known k, kept_above k low, row_above width row k low)
    | inr past ↦ elim (cases_lt k ((row + 1) * width)) [
      | inl high ↦
          let at = in_row width row k past high in
          let put = rw at.is at (put_here (k - row * width) at.below) in
          grind (
            arith,
            nat_tests,
            known k,
            here (k - row * width),
            word_in frame (row * width) width (k - row * width),
            word_in out (row * width) width (k - row * width),
          )
      | inr far ↦ grind (arith, nat_tests, known k, kept_below k far, (le-div_iff_mul-le some).1 far)
    ]
  ]

  pub copied_more : (e : Option Edges) → AreEdges width row out old e → (s : Option Span)
      → IsSpan part (picture_row width row out) s
      → IsMerged (is_in_rows width left right top (row + 1)) frame old (put_mid (row * width) wide out part)
      × AreEdges width row (put_mid (row * width) wide out part) old e
      × IsSpan (picture_row width row (put_mid (row * width) wide out part)) (picture_row width row old) s
  copied_more e edges s span = (
    merged_more,
    kept_edges width row row out _ old (omega arith) kept_above e (λ k low lt. absurd (omega arith)) edges,
    rw (row_put, ← row_old) span,
  )
