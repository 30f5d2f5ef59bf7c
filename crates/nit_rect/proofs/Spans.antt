-- Places that follow one another.
use Rattle.std.proofs.Common.{Bool, arith, false, refl, sym, true, ℕ, ◌&&◌, ◌+ℤ◌, ◌+◌, ◌<ℤ◌, ◌<◌}
use Rattle.std.proofs.Common.{◌≡◌, ◌≤ℤ◌, ◌≤◌}
use Rattle.nit_rect.proofs.Basics.{int_le, int_lt, ints, pos, spans, times_among, ℤ}

-- two tests that hold at the same time
pub same_tests : (b c : Bool) → (b ≡ true → c ≡ true) → (c ≡ true → b ≡ true) → b ≡ c
same_tests true c f g = sym (f refl)
same_tests false true f g = g refl
same_tests false false f g = refl

pub and_true : {b c : Bool} → b ≡ true → c ≡ true → (b && c) ≡ true
and_true p q = rw (p, q) refl

pub le_tested : (a b : ℤ) → a ≤ℤ b → int_le a b ≡ true
le_tested a b le = grind (arith, ints)

-- what it means that a place is spanned
pub record IsSpanned (from : ℤ) (long : ℕ) (at : ℤ) : Type 0 where
  pub low : from ≤ℤ at
  pub high : at <ℤ (from +ℤ pos long)

pub spans_tells : (from : ℤ) (long : ℕ) (at : ℤ) → spans from long at ≡ true → IsSpanned from long at
spans_tells from long at is = grind (arith, ints)

pub spans_holds : (from : ℤ) (long : ℕ) (at : ℤ) → IsSpanned from long at → spans from long at ≡ true
spans_holds from long at is = grind (arith, ints)

-- the places before an end
pub spans_before : (again from end at : ℤ) (long short : ℕ) → again ≡ from → short ≤ long
    → (0 < short → (from +ℤ pos short) ≤ℤ end) → (short < long → end ≤ℤ (from +ℤ pos short))
    → spans again short at ≡ (spans from long at && int_lt at end)
spans_before again from end at long short same fewer within reached = rw same (grind (arith, ints))

-- of two spans, the one that begins later, as far as the other goes
pub spans_earlier : (a b end at : ℤ) (m n : ℕ) → end ≡ b +ℤ pos n → b ≤ℤ a
    → (spans a m at && int_lt at end) ≡ (spans a m at && spans b n at)
spans_earlier a b end at m n is later = grind (arith, ints)

-- a span, and the one that follows it
times_both : (from at : ℤ) (long more : ℕ) → times_among from (long + more) at
    ≡ times_among from long at + times_among (from +ℤ pos long) more at
times_both from at long more = grind (arith, ints)

-- a span round a cut
pub times_round : (from again cut behind at : ℤ) (long before within after : ℕ) → again ≡ from
    → cut ≡ from +ℤ pos before → behind ≡ cut +ℤ pos within
    → long ≡ before + (within + after)
    → times_among from long at ≡ times_among again before at + times_among behind after at + times_among cut within at
times_round from again cut behind at long before within after same begins ends all = rw (same, all, ends, begins)
    (omega (arith, times_both from at before (within + after), times_both (from +ℤ pos before) at within after))
