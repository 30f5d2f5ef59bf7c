-- Rows of a block of the screen, and the pixels of each.
use Rattle.std.proofs.Common.{List, Option, ap, arith, false, inl, inr, nat_le, nat_lt, suc-mul}
use Rattle.std.proofs.Common.{sym, ℕ, ◌%◌, ◌&&◌, ◌*◌, ◌+◌, ◌/◌, ◌<◌, ◌==◌, ◌||◌, ◌∙◌, ◌≡◌, ◌≤◌}
use Rattle.nit_paint.proofs.Basics.{Block, PixelSource, Reach, Repainted, Sight, black_or_word}
use Rattle.nit_paint.proofs.Basics.{cases_order, in_rows, in_run, index_at, index_from, long}
use Rattle.nit_paint.proofs.Basics.{mul-le-mul_right, nat_tests, option_map, reached, row_at}
use Rattle.nit_paint.proofs.Basics.{row_source}
use Rattle.nit_paint.proofs.RepaintLemmas.{repainted_none, repainted_union}

-- the column and the row of a pixel say whether it is one of a run within a row
run_in_row : (w y x n q r : ℕ) → r < w → x + n ≤ w
    → in_run (y * w + x) n (q * w + r) ≡ ((nat_le x r && nat_lt r (x + n)) && (q == y))
run_in_row w y x n q r inside fits = elim (cases_order q y) [
  | inl e ↦ rw e (grind (arith, nat_tests))
  | inr other ↦ elim other [
    | inl l ↦ let m = mul-le-mul_right w l in let p = suc-mul q w in grind (arith, nat_tests)
    | inr l ↦ let m = mul-le-mul_right w l in let p = suc-mul y w in grind (arith, nat_tests)
  ]
]

module _ (b : Block) (fits : b.left + b.wide ≤ b.width) (some : 0 < b.width) (j k : ℕ) where
  this_row : in_run (row_at b j) b.wide k
      ≡ ((nat_le b.left (k % b.width) && nat_lt (k % b.width) (b.left + b.wide)) && ((k / b.width) == (b.top + j)))
  this_row =
      let whole : k / b.width * b.width + k % b.width ≡ k = omega arith in
      ap (in_run (row_at b j) b.wide) (sym whole)
      ∙ run_in_row b.width (b.top + j) b.left b.wide (k / b.width) (k % b.width) (omega arith) fits

  row_next : (in_rows b j k || in_run (row_at b j) b.wide k) ≡ in_rows b (j + 1) k
  row_next = rw this_row (grind (arith, nat_tests))

  row_apart : (in_rows b j k && in_run (row_at b j) b.wide k) ≡ false
  row_apart = rw this_row (grind (arith, nat_tests))

pub rows_none : (source : ℕ → PixelSource) (b : Block) (n : ℕ) (glasses : ℕ → Sight) (raw : List ℕ)
    → Repainted source (in_rows b 0) n glasses glasses raw raw
rows_none source b n glasses raw = repainted_none source (in_rows b 0) n glasses raw (λ k l. grind (arith, nat_tests))

pub rows_more : (source : ℕ → PixelSource) (b : Block) (j at wide n m : ℕ) (before mid after : ℕ → Sight)
    (raw first last : List ℕ) → b.left + b.wide ≤ b.width → 0 < b.width
    → at ≡ row_at b j → wide ≡ b.wide → m ≡ n
    → Repainted source (in_rows b j) n before mid raw first → Repainted source (in_run at wide) m mid after first last
    → Repainted source (in_rows b (j + 1)) n before after raw last
rows_more source b j at wide n m before mid after raw first last fits some is all count r s =
    repainted_union source (in_rows b j) (in_run (row_at b j) b.wide) (in_rows b (j + 1)) _ _ _ _ _ _ _
    (row_apart b fits some j) (row_next b fits some j) r (rw (is, all, count) at s)

-- the index of a word by its column, and by its row's first word
by_start : (w : ℕ) (column row : Option ℕ) → index_at w column row ≡ index_from (option_map (λ y. y * w) row) column
by_start w column row = grind arith

-- what a row's pixels show, by the row's first word
pub row_told : (source : ℕ → PixelSource) (at sid w n : ℕ) (r : Reach) (row start : Option ℕ)
    → start ≡ option_map (λ y. y * w) row → long r ≡ n
    → ((i : ℕ) → i < n → source (at + i) ≡ black_or_word sid (index_at w (reached r i) row)) → (i : ℕ) → i < long r
    → source (at + i) ≡ row_source sid r start i
row_told source at sid w n r row start is all told i l =
    told i (omega arith) ∙ rw (is, by_start w (reached r i) row)
