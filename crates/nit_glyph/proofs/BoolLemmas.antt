-- Tests that answer true or false.
use Rattle.std.proofs.Common.{Bool, List, arith, false, not, refl, suc, true, zero, ℕ, ◌<◌, ◌||◌}
use Rattle.std.proofs.Common.{◌≡◌}
use Rattle.nit_glyph.proofs.Basics.{AllPass-from_list_all, agree_below, and_from, beq, list_all}
use Rattle.nit_glyph.proofs.Basics.{list_all-from_AllPass}

-- where `not a || b` holds, a gives b
pub implies : (a b : Bool) → (not a || b) ≡ true → a ≡ true → b ≡ true
implies true b either holds = either
implies false b either holds = cc

-- where a test gives another, so it does over a list
pub list_all_weaker : (p q : ℕ → Bool) (xs : List ℕ) → ((x : ℕ) → p x ≡ true → q x ≡ true) → list_all p xs ≡ true
    → list_all q xs ≡ true
list_all_weaker p q xs gives all =
    list_all-from_AllPass q xs (λ k d lt. gives _ (AllPass-from_list_all p xs all k d lt))

-- equal answers compare as equal
beq_same : (a b : Bool) → a ≡ b → beq a b ≡ true
beq_same true true e = refl
beq_same true false e = cc
beq_same false true e = cc
beq_same false false e = refl

-- two tests with equal answers at each number below n agree there
pub agree : (f g : ℕ → Bool) (n : ℕ) → ((k : ℕ) → k < n → f k ≡ g k) → agree_below f g n ≡ true
agree f g zero same = refl
agree f g (suc n) same =
    and_from _ _ (beq_same _ _ (same n (omega arith))) (agree f g n (λ k lt. same k (omega arith)))
