-- Rows of a block that are whole rows of the screen and show whole rows of a buffer: all their words stand side by
-- side.
use Rattle.std.proofs.Common.{List, Some, ap, arith, inl, inr, nat_le, nat_lt, pos, refl, suc-mul, sym}
use Rattle.std.proofs.Common.{ℕ, ◌%◌, ◌&&◌, ◌*◌, ◌+ℤ◌, ◌+◌, ◌/◌, ◌<◌, ◌∙◌, ◌≡◌, ◌≤◌}
use Rattle.nit_paint.proofs.Basics.{Block, PixelSource, Reach, Repainted, ShowsWholeRows, Sight}
use Rattle.nit_paint.proofs.Basics.{Word, add-mul, among, black_or_word, cases_lt, div_below, in_rows}
use Rattle.nit_paint.proofs.Basics.{in_run, index_at, ints, long, mul-le-mul_right}
use Rattle.nit_paint.proofs.Basics.{nat_tests, reached, row_at, ℤ}
use Rattle.nit_paint.proofs.RepaintLemmas.{repainted_same}

-- whole rows are one run of pixels
rows_run : (w y n q r : ℕ) → r < w → in_run (y * w) (n * w) (q * w + r) ≡ (nat_le y q && nat_lt q (y + n))
rows_run w y n q r inside = elim (cases_lt q y) [
  | inl l ↦ let m = mul-le-mul_right w l in let p = suc-mul q w in grind (arith, nat_tests)
  | inr below ↦ let m = mul-le-mul_right w below in let a = add-mul y n w in elim (cases_lt q (y + n)) [
    | inl l ↦ let o = mul-le-mul_right w l in let p = suc-mul q w in grind (arith, nat_tests)
    | inr past ↦ let o = mul-le-mul_right w past in grind (arith, nat_tests)
  ]
]

-- the words of the buffer's rows lie within it
pub rows_within : (first tall width w h size : ℕ) → w ≡ width → first + tall ≤ h → w * h ≤ size
    → first * w + tall * width ≤ size
rows_within first tall width w h size same fits all =
    let m = mul-le-mul_right w fits in let a = add-mul first tall w in rw (← same) (omega arith)

module _ (b : Block) (left : b.left ≡ 0) (wide : b.wide ≡ b.width) (some : 0 < b.width) where
  all_rows : (k : ℕ) → in_run (b.top * b.width) (b.tall * b.width) k ≡ in_rows b b.tall k
  all_rows k =
      let whole : k / b.width * b.width + k % b.width ≡ k = omega arith in
      ap (in_run (b.top * b.width) (b.tall * b.width)) (sym whole)
      ∙ rows_run b.width b.top b.tall (k / b.width) (k % b.width) (omega arith)
      ∙ grind (arith, nat_tests)

  pub run_of_rows : (source : ℕ → PixelSource) (n : ℕ) (before after : ℕ → Sight) (raw raw' : List ℕ)
      → Repainted source (in_run (b.top * b.width) (b.tall * b.width)) n before after raw raw'
      → Repainted source (in_rows b b.tall) n before after raw raw'
  run_of_rows source n before after raw raw' r =
      repainted_same source source _ _ n _ _ _ _ _ _ (λ k l. all_rows k) (λ k l m. refl) (λ t. refl) (λ t. refl) r

  pub words_shown : (source : ℕ → PixelSource) (r : Reach) (row : ℤ) (first w h sid : ℕ)
      → long r ≡ b.wide → r.from + r.words ≤ w → ShowsWholeRows b r row w h → row ≡ pos first
      → ((j i : ℕ) → j < b.tall → i < b.wide
      → source (row_at b j + i) ≡ black_or_word sid (index_at w (reached r i) (among (row +ℤ pos j) h)))
      → (k : ℕ) → k < b.tall * b.width → source (b.top * b.width + k) ≡ Word sid (first * w + k)
  words_shown source r row first w h sid all columns shows is told k l =
      let whole : k / b.width * b.width + k % b.width ≡ k = omega arith in
      let inside : k % b.width < b.width = omega arith in
      let down : k / b.width < b.tall = div_below k b.width b.tall some l in
      let top = add-mul b.top (k / b.width) b.width in
      let under = add-mul first (k / b.width) b.width in
      let place : row_at b (k / b.width) + k % b.width ≡ b.top * b.width + k = omega arith in
      let column : reached r (k % b.width) ≡ Some (k % b.width) = grind (arith, nat_tests) in
      let line : among (row +ℤ pos (k / b.width)) h ≡ Some (first + k / b.width) = grind (arith, ints, nat_tests) in
      let word : (first + k / b.width) * w + k % b.width ≡ first * w + k = rw (shows.0.1) (omega arith) in
      rw (column, line, word, place) at (told (k / b.width) (k % b.width) down (omega arith))
