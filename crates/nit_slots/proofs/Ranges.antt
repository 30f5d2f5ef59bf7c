-- The numbers of a range that pass a test, and one of them more or less.
use Rattle.std.proofs.Common.{All, Bool, List, [], arith, false, filter, inl, inr, length, refl}
use Rattle.std.proofs.Common.{suc, true, zero, ℕ, ◌+◌, ◌<◌, ◌∷◌, ◌≡◌, ◌≢◌, ◌≤◌}
use Rattle.nit_slots.proofs.Basics.{IsStrictlyIncreasing, cases_lt, get_or-range_with_len, is_slot_among}
use Rattle.nit_slots.proofs.Basics.{length-range_with_len, nat_tests, range_with_len, with_slot}
use Rattle.nit_slots.proofs.Basics.{without_slot}

-- a number below the range makes no difference to a test
filter_above : (p q : ℕ → Bool) (k a n : ℕ) → k < a → ((j : ℕ) → j ≢ k → q j ≡ p j)
    → filter q (range_with_len a n) ≡ filter p (range_with_len a n)
filter_above p q k a zero low same = refl
filter_above p q k a (suc n) low same =
    let here : q a ≡ p a = same a (λ (e : a ≡ k). omega arith) in
    rw (here, filter_above p q k (a + 1) n (omega arith) same) refl

-- and comes to stand before the numbers that pass
with_slot_before : (p : ℕ → Bool) (k a n : ℕ) → k < a → with_slot (filter p (range_with_len a n)) k
    ≡ k ∷ filter p (range_with_len a n)
with_slot_before p k a zero low = refl
with_slot_before p k a (suc n) low = grind (arith, nat_tests, with_slot_before p k (a + 1) n)

-- a test that passes k too keeps one number more
pub filter_with : (p q : ℕ → Bool) (k a n : ℕ) → a ≤ k → k < a + n → p k ≡ false → q k ≡ true
    → ((j : ℕ) → j ≢ k → q j ≡ p j)
    → filter q (range_with_len a n) ≡ with_slot (filter p (range_with_len a n)) k
filter_with p q k a zero low high out in' same = absurd (omega arith)
filter_with p q k a (suc n) low high out in' same = elim (cases_lt a k) [
  | inl less ↦
      let rest = filter_with p q k (a + 1) n (omega arith) (omega arith) out in' same in
      grind (arith, nat_tests, same a)
  | inr more ↦
      let e : a ≡ k = omega arith in
      let rest = filter_above p q k (a + 1) n (omega arith) same in
      grind (arith, nat_tests, with_slot_before p k (a + 1) n)
]

-- one slot more
pub length-with_slot : (k : ℕ) (slots : List ℕ) → length (with_slot slots k) ≡ length slots + 1
length-with_slot k [] = refl
length-with_slot k (s ∷ rest) = grind (arith, nat_tests, length-with_slot k rest)

-- a test that does not pass k keeps the others
pub filter_without : (p q : ℕ → Bool) (k : ℕ) → q k ≡ false → ((j : ℕ) → j ≢ k → q j ≡ p j) → (xs : List ℕ)
    → filter q xs ≡ without_slot (filter p xs) k
filter_without p q k out same [] = refl
filter_without p q k out same (x ∷ xs) =
    let rest = filter_without p q k out same xs in
    grind (arith, nat_tests, same x)

-- what stands among those that pass lies in the range and passes
pub among_range : (p : ℕ → Bool) (k a n : ℕ) → is_slot_among (filter p (range_with_len a n)) k ≡ true
    → (p k ≡ true) × (k < a + n)
among_range p k a zero h = cc
among_range p k a (suc n) h = grind (arith, nat_tests, among_range p k (a + 1) n)

-- where no number passes, none is kept
pub none_passes : (p : ℕ → Bool) (a n : ℕ) → ((j : ℕ) → a ≤ j → j < a + n → p j ≡ false)
    → filter p (range_with_len a n) ≡ []
none_passes p a zero fails = refl
none_passes p a (suc n) fails =
    rw (fails a (omega arith) (omega arith))
    (none_passes p (a + 1) n (λ j low high. fails j (omega arith) (omega arith)))

-- the numbers of a range from 0 are below its length
pub range_below : (total : ℕ) → All (λ k. k < total) (range_with_len 0 total)
range_below total k d l =
    let within : k < total = omega (arith, length-range_with_len 0 total) in
    omega (arith, get_or-range_with_len 0 total k d within)

-- and they rise
pub range_rises : (total : ℕ) → IsStrictlyIncreasing (range_with_len 0 total)
range_rises total k l =
    let within : k + 1 < total = omega (arith, length-range_with_len 0 total) in
    omega (arith, get_or-range_with_len 0 total k 0 (omega arith), get_or-range_with_len 0 total (k + 1) 0 within)
