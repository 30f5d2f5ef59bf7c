-- The seats of a plan, read from words one by one.
use Rattle.std.proofs.Common.{Bool, List, [], add-zero, ap, ap₂, arith, false, length, map, refl}
use Rattle.std.proofs.Common.{set, suc, sym, take, true, zero, ℕ, ◌&&◌, ◌++◌, ◌+◌, ◌<◌, ◌∙◌, ◌∷◌}
use Rattle.std.proofs.Common.{◌≡◌}
use Rattle.nit_c.proofs.Basics.{list_all, map-range_with_len_more, range_with_len, take_more_set}

-- ---- whether a test holds of the first so many numbers

one_on : {A : Type 0} (f : ℕ → A) (from k : ℕ) → f (from + 1 + k) ≡ f (from + suc k)
one_on f from k = let same : from + 1 + k ≡ from + suc k = omega arith in ap f same

all_from : (p : ℕ → Bool) (from n : ℕ) → ((k : ℕ) → k < n → p (from + k) ≡ true) → list_all p (range_with_len from n)
    ≡ true
all_from p from zero each = refl
all_from p from (suc n) each =
    let first : p from ≡ true = ap p (sym (add-zero from)) ∙ each 0 (omega arith) in
    ap (λ (b : Bool). b && list_all p (range_with_len (from + 1) n)) first
    ∙ all_from p (from + 1) n (λ k less. one_on p from k ∙ each (suc k) (omega arith))

not_from : (p : ℕ → Bool) (from n i : ℕ) → i < n → p (from + i) ≡ false → list_all p (range_with_len from n) ≡ false
not_from p from zero i inside fails = absurd (omega arith)
not_from p from (suc n) zero inside fails =
    let first : p from ≡ false = ap p (sym (add-zero from)) ∙ fails in
    ap (λ (b : Bool). b && list_all p (range_with_len (from + 1) n)) first
not_from p from (suc n) (suc i) inside fails =
    both (p from) (not_from p (from + 1) n i (omega arith) (one_on p from i ∙ fails))
  where
    both : (b : Bool) → list_all p (range_with_len (from + 1) n) ≡ false
        → (b && list_all p (range_with_len (from + 1) n)) ≡ false
    both true e = e
    both false e = refl

pub all_hold : (p : ℕ → Bool) (n i : ℕ) → n ≡ i → ((k : ℕ) → k < i → p k ≡ true)
    → list_all p (range_with_len 0 n) ≡ true
all_hold p n i far each = let from_zero : (k : ℕ)
    → 0 + k ≡ k = λ k. omega arith in all_from p 0 n (λ k less. ap p (from_zero k) ∙ each k (omega arith))

pub one_fails : (p : ℕ → Bool) (n i : ℕ) → i < n → p i ≡ false → list_all p (range_with_len 0 n) ≡ false
one_fails p n i inside fails = let from_zero : 0 + i ≡ i =
    omega arith in not_from p 0 n i inside (ap p from_zero ∙ fails)

-- ---- one more seat is read

pub one_more : {A : Type 0} (f : ℕ → A) (xs : List A) (k : ℕ) (x : A) → k < length xs
    → take k xs ≡ map f (range_with_len 0 k) → x ≡ f k → take (k + 1) (set xs k x) ≡ map f (range_with_len 0 (k + 1))
one_more f xs k x inside before is =
    take_more_set xs k x inside ∙ ap₂ (λ (front : List _) y. front ++ y ∷ []) before is
    ∙ sym (map-range_with_len_more f 0 k k (omega arith))
