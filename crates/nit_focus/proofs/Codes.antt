-- The codes that are held down: one more always fits.
use Rattle.std.proofs.Common.{Bool, List, [], arith, false, filter, length, refl, true, ℕ, ◌++◌}
use Rattle.std.proofs.Common.{◌<◌, ◌==◌, ◌∙◌, ◌∷◌, ◌≡◌, ◌≤◌, if◌then◌else◌}
use Rattle.nit_focus.proofs.Basics.{All-contains, All-filter, All-from_recursion, All-nil, All-push}
use Rattle.nit_focus.proofs.Basics.{AllByRecursion, Contains-from_any, IsDistinct-cons}
use Rattle.nit_focus.proofs.Basics.{IsDistinct-head, IsDistinct-push, IsDistinct-tail, AreHeldCodes, eqb}
use Rattle.nit_focus.proofs.Basics.{eqb-true, length-le_from_distinct_below, length_push, list_any}
use Rattle.nit_focus.proofs.Basics.{nat_eq_equiv, recursion_from_All}
use Rattle.std.specs.List.{IsDistinct}

-- a code is looked for from either side
from_either_side : (codes : List ℕ) (k : ℕ) → list_any (eqb k) codes ≡ list_any (λ j. j == k) codes
from_either_side [] k = refl
from_either_side (j ∷ codes) k = rw (nat_eq_equiv.symm k j, from_either_side codes k) refl

-- there are no more held codes than codes
few_held : (codes : List ℕ) → AreHeldCodes codes → length codes ≤ 768
few_held codes h =
    length-le_from_distinct_below codes 768 h.different (λ q found.
    let known : q ≤ 767 = All-contains (λ k. k ≤ 767) codes q h.known
    (Contains-from_any (λ x y. eqb-true x y) q codes found) in
    omega arith)

-- a code goes down that was not held
pub held_more : (codes : List ℕ) (k : ℕ) → AreHeldCodes codes → k ≤ 767 → list_any (λ j. j == k) codes ≡ false
    → AreHeldCodes (codes ++ k ∷ [])
held_more codes k h known up = record {
  known = All-push (λ j. j ≤ 767) codes k h.known known;
  different = IsDistinct-push nat_eq_equiv codes k h.different (from_either_side codes k ∙ up);
}

-- so there is room for it
pub held_room : (codes : List ℕ) (k : ℕ) → AreHeldCodes codes → k ≤ 767 → list_any (λ j. j == k) codes ≡ false
    → length codes < 768
held_room codes k h known up =
    omega (arith, few_held (codes ++ k ∷ []) (held_more codes k h known up), length_push codes k)

different_filter : (test : ℕ → Bool) (codes : List ℕ) → IsDistinct eqb codes → IsDistinct eqb (filter test codes)
different_filter test [] d = d
different_filter test (k ∷ codes) d =
    let rest = different_filter test codes (IsDistinct-tail eqb k codes d) in
    let apart : AllByRecursion (λ y. eqb k y ≡ false) (filter test codes) =
    recursion_from_All (λ y. eqb k y ≡ false) (filter test codes)
    (All-filter test (λ y. eqb k y ≡ false) codes
    (All-from_recursion (λ y. eqb k y ≡ false) codes (IsDistinct-head eqb k codes d))) in
    elim (test k) as (λ v. IsDistinct eqb (if v then k ∷ filter test codes else filter test codes)) [
      | true ↦ IsDistinct-cons eqb k (filter test codes) apart rest
      | false ↦ rest
    ]

-- codes go up
pub held_less : (test : ℕ → Bool) (codes : List ℕ) → AreHeldCodes codes → AreHeldCodes (filter test codes)
held_less test codes h = record {
  known = All-filter test (λ j. j ≤ 767) codes h.known;
  different = different_filter test codes h.different;
}

-- nothing is held
pub held_none : (codes : List ℕ) → codes ≡ [] → AreHeldCodes codes
unfolding IsDistinct
held_none codes e = rw e (record { known = All-nil (λ j. j ≤ 767); different = tt })
