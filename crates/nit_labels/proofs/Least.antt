-- Least places among those from one place on.
use Rattle.std.proofs.Common.{None, Option, Some, arith, inl, inr, refl, ℕ, ◌+◌, ◌<◌, ◌≡◌, ◌≤◌}
use Rattle.nit_labels.proofs.Basics.{IsLeastFrom, IsLeastPlace, Point, cases_lt, spot}

-- what holds of the same places has the same least one
least_same : (P Q : ℕ → ℕ → Type 0) (q : Option Point) → ((x y : ℕ) → P x y → Q x y) → ((x y : ℕ) → Q x y → P x y)
    → IsLeastPlace P q → IsLeastPlace Q q
least_same P Q None to back none = λ x y holds. none x y (back x y holds)
least_same P Q (Some q) to back (x, y, is, holds, least) =
    (x, y, is, to x y holds, λ i j before other. least i j before (back i j other))

module _ (Is : ℕ → ℕ → Type 0) where
  -- it is so here
  pub least_here : (x y : ℕ) → Is x y → IsLeastFrom Is x y (Some (spot x y))
  least_here x y holds =
      (x, y, refl, (inr (refl, omega arith), holds), λ i j before other. grind arith)

  -- it is so in none of the next columns
  pub least_span : (x r y : ℕ) (q : Option Point) → ((i : ℕ) → x ≤ i → i < x + r → Is i y → ⊥)
      → IsLeastFrom Is (x + r) y q → IsLeastFrom Is x y q
  least_span x r y q not = least_same _ _ q
      (λ i j (from, holds). (grind arith, holds))
      (λ i j (from, holds). (
        elim (cases_lt y j) [
          | inl below ↦ inl below
          | inr above ↦ elim (cases_lt i (x + r)) [
            | inl less ↦
                let e : j ≡ y = grind arith in
                let left : x ≤ i = grind arith in
                absurd (not i left less (rw e at holds))
            | inr far ↦ grind arith
          ]
        ],
        holds,
      ))

  -- it is so nowhere past the end of a row
  pub least_row : (width y : ℕ) (q : Option Point) → ((x y : ℕ) → Is x y → x < width)
      → IsLeastFrom Is 0 (y + 1) q → IsLeastFrom Is width y q
  least_row width y q within = least_same _ _ q
      (λ i j (from, holds). (grind arith, holds))
      (λ i j (from, holds). let lt = within i j holds in (grind arith, holds))

  -- it is so nowhere in a row
  pub least_skip : (y : ℕ) (q : Option Point) → ((x : ℕ) → Is x y → ⊥) → IsLeastFrom Is 0 (y + 1) q
      → IsLeastFrom Is 0 y q
  least_skip y q not = least_same _ _ q
      (λ i j (from, holds). (grind arith, holds))
      (λ i j (from, holds). (
        elim (cases_lt y j) [
          | inl below ↦ grind arith
          | inr above ↦ let e : j ≡ y = grind arith in absurd (not i (rw (← e) holds))
        ],
        holds,
      ))
