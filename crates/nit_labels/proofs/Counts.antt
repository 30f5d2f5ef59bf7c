-- What the count of a pixel says of the column below it.
use Rattle.std.proofs.Common.{Bool, arith, false, inl, inr, min, refl, sym, true, ℕ, ◌+◌, ◌<◌, ◌==◌}
use Rattle.std.proofs.Common.{◌∙◌, ◌≡◌, ◌≤◌}
use Rattle.nit_labels.proofs.Basics.{OwnsDown, CountsDown, cases_lt, counted, nat_tests}

module _ (at : ℕ → ℕ → ℕ) (height h : ℕ) where
  -- the pixel below goes on
  down_more : (x y d : ℕ) → 1 ≤ h → y + 1 < height → at x (y + 1) ≡ at x y → CountsDown at height h x (y + 1) d
      → CountsDown at height h x y (min (d + 1) h)
  down_more x y d high inside same below = record {
    most = omega arith;
    within = omega (arith, below.within);
    same = λ j from to. elim (cases_lt y j) [
      | inl less ↦ grind (arith, below.same j)
      | inr le ↦ let e : j ≡ y = omega arith in rw e refl
    ];
    more = λ short low again.
        let e : min (d + 1) h ≡ d + 1 = omega arith in
        let e' : y + (d + 1) ≡ (y + 1) + d = omega arith in
        let there = rw (e, e') at again in
        below.more (omega arith) (omega arith) (there ∙ sym same);
  }

  -- the pixel stands alone
  down_alone : (x y : ℕ) → 1 ≤ h → y < height → (y + 1 < height → at x (y + 1) ≡ at x y → ⊥)
      → CountsDown at height h x y 1
  down_alone x y high inside other = record {
    most = high;
    within = omega arith;
    same = λ j from to. let e : j ≡ y = omega arith in rw e refl;
    more = λ short low again. other low again;
  }

  pub down_step : (x y d below : ℕ) (goes_on : Bool) → 1 ≤ h → y < height → (y + 1 < height → below ≡ y + 1)
      → goes_on ≡ (at x below == at x y)
      → CountsDown at height h x (y + 1) d → CountsDown at height h x y (counted goes_on d h)
  down_step x y d below goes_on high inside next e down = elim (cases_lt (y + 1) height) [
    | inl low ↦ goes_further goes_on low (e ∙ rw (next low) refl)
    | inr le ↦
        let none : d ≡ 0 = omega (arith, down.within) in
        let one : counted goes_on d h ≡ 1 = rw none (alone goes_on) in
        rw one (down_alone x y high inside (λ low same. absurd (omega arith)))
  ]
    where
      alone : (b : Bool) → counted b 0 h ≡ 1
      alone true = omega arith
      alone false = refl

      goes_further : (b : Bool) → y + 1 < height → b ≡ (at x (y + 1) == at x y) → CountsDown at height h x y (counted b d h)
      goes_further true low e = down_more x y d high low (grind (arith, nat_tests)) down
      goes_further false low e = down_alone x y high inside (λ low same. grind (arith, nat_tests))

  -- a count is full exactly where the column is of one owner
  pub down_column : (o x y d : ℕ) → CountsDown at height h x y d → o ≡ at x y → d ≡ h → OwnsDown at height h o x y
  down_column o x y d down e full = record {
    bottom = omega (arith, down.within);
    own = λ j from to. grind (arith, down.same j);
  }

  pub column_down : (o x y d : ℕ) → CountsDown at height h x y d → o ≡ at x y → OwnsDown at height h o x y → d ≡ h
  column_down o x y d down e column = elim (cases_lt d h) [
    | inl less ↦ absurd (down.more less (omega (arith, column.bottom)) (column.own (y + d) (omega arith) (omega arith) ∙ e))
    | inr le ↦ omega (arith, down.most)
  ]
