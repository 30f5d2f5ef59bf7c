-- The places that are found so far, of all owners.
use Rattle.std.proofs.Common.{Bool, List, None, Option, Some, arith, false, inl, inr, length, refl}
use Rattle.std.proofs.Common.{true, ℕ, ◌+◌, ◌≡◌, ◌≤◌, set, sym, ◌∙◌, leb, ltb, ◌&&◌, if◌then◌else◌}
use Rattle.std.proofs.Common.{suc, zero, ◌-◌, ◌<◌}
use Rattle.nit_labels.proofs.Basics.{AreFoundFrom, IsAgainAbove, IsEarlier, CountsDown, OwnsArea, IsLeastFrom}
use Rattle.nit_labels.proofs.Basics.{IsLeastPlace, IsRun, IsTop, Point, cases_eq, cases_lt}
use Rattle.nit_labels.proofs.Basics.{get_or-set_other, get_or-set_same, nat_tests, spot, put_where}
use Rattle.nit_labels.proofs.Basics.{slice_index_or}
use Rattle.nit_labels.proofs.Counts.{column_down}
use Rattle.nit_labels.proofs.Least.{least_here, least_row, least_skip, least_span}
use Rattle.nit_labels.proofs.Runs.{free_run, run_free}

module _ (at : ℕ → ℕ → ℕ) (width height h : ℕ) (widths : List ℕ) where
  put_run : (x y r o : ℕ) (found : List (Option Point)) (b : Bool) → 1 ≤ h → o ≡ at x y
      → length found ≡ length widths → IsRun at width height h x y r
      → IsTop at width y → AreFoundFrom at width height widths h (x + r) y found
      → b ≡ (ltb o (length widths) && leb (slice_index_or widths o 0) r)
      → AreFoundFrom at width height widths h x y (if b then set found o (Some (spot x y)) else found)
  put_run x y r o found false high is long run top before e = λ k lt wide.
      least_span _ x r y _
      (λ i from to (first, free).
      let both = free_run at width height h k _ x y r i wide high run from to free in
      let same : k ≡ o = sym both.0 ∙ sym is in
      grind (arith, nat_tests, both.1))
      (before k lt wide)
  put_run x y r o found true high is long run top before e = λ k lt wide. elim (cases_eq k o) [
    | inl same ↦
        rw (same, get_or-set_same found o (Some (spot x y)) None (omega arith))
        (least_here _ x y (top, run_free at width height h o _ x y r (rw same at wide) is (grind (arith, nat_tests)) run))
    | inr differ ↦
        rw (get_or-set_other found o k (Some (spot x y)) None differ)
        (least_span _ x r y _
        (λ i from to (first, free).
        let both = free_run at width height h k _ x y r i wide high run from to free in
        differ (sym both.0 ∙ sym is))
        (before k lt wide))
  ]

  -- one run more
  pub found_run : (x y r o : ℕ) (found : List (Option Point)) → 1 ≤ h → o ≡ at x y → length found ≡ length widths
      → IsRun at width height h x y r → IsTop at width y → AreFoundFrom at width height widths h (x + r) y found
      → AreFoundFrom at width height widths h x y (put_where widths o r (spot x y) found)
  found_run x y r o found high is long run top before = put_run x y r o found _ high is long run top before refl

  -- a column that is not tall
  pub found_short : (x y d : ℕ) (found : List (Option Point)) → 1 ≤ h → CountsDown at height h x y d → (d ≡ h → ⊥)
      → AreFoundFrom at width height widths h (x + 1) y found → AreFoundFrom at width height widths h x y found
  found_short x y d found high down short before = λ k lt wide.
      least_span _ x 1 y _
      (λ i from to (first, free).
      let e : i ≡ x = omega arith in
      let here = rw e at free in
      let top : k ≡ at x y = sym (here.own x y (omega arith) (omega arith) (omega arith) (omega arith)) in
      short (column_down at height h k x y d down top (record {
        bottom = here.bottom;
        own = λ j above below. here.own x j (omega arith) (omega arith) above below;
      })))
      (before k lt wide)

  pub found_row : (y : ℕ) (found : List (Option Point)) → AreFoundFrom at width height widths h 0 (y + 1) found
      → AreFoundFrom at width height widths h width y found
  found_row y found before = λ o lt wide.
      least_row _ width y _ (λ i j (top, free). let e = free.right in omega arith) (before o lt wide)

  -- a row that is passed over
  pub found_skip : (y : ℕ) (found : List (Option Point)) → 0 < y → IsAgainAbove at width y
      → AreFoundFrom at width height widths h 0 (y + 1) found
      → AreFoundFrom at width height widths h 0 y found
  found_skip y found low again before = λ o lt wide. least_skip _ y _ (λ x (top, free). top low again) (before o lt wide)

  -- what is free in a row is free in the same row above it
  free_above : (o w x y : ℕ) → 1 ≤ w → IsAgainAbove at width (suc y) → OwnsArea at width height o w h x (suc y)
      → OwnsArea at width height o w h x y
  free_above o w x y wide again free = record {
    right = free.right;
    bottom = omega (arith, free.bottom);
    own = λ i j left right top bottom. elim (cases_lt y j) [
      | inl less ↦ free.own i j left right (omega arith) (omega arith)
      | inr le ↦
          let e : j ≡ y = omega arith in
          let e' : suc y - 1 ≡ y = omega arith in
          let same = rw e' at (again i (omega (arith, free.right))) in
          rw e (same ∙ free.own i (suc y) left right (omega arith) (omega arith))
    ];
  }

  -- where nothing is free in the topmost of the same rows, nothing is free in those below it
  no_tops : (o w : ℕ) (Among : ℕ → ℕ → Type 0) → 1 ≤ w → ((x y : ℕ) → Among x (suc y) → Among x y)
      → ((x y : ℕ) → Among x y → IsTop at width y × OwnsArea at width height o w h x y → ⊥)
      → (x y : ℕ) → Among x y → OwnsArea at width height o w h x y → ⊥
  no_tops o w Among wide up none x zero among free = none x zero among ((λ low. absurd (omega arith)), free)
  no_tops o w Among wide up none x (suc y) among free =
      none x (suc y) among (
        (λ low again. no_tops o w Among wide up none x y (up x y among)
            (free_above o w x y wide again free)),
        free,
      )

  -- at the end
  pub found_all : (o w : ℕ) (q : Option Point) → 1 ≤ w
      → IsLeastFrom (λ i j. IsTop at width j × OwnsArea at width height o w h i j) 0 0 q
      → IsLeastPlace (OwnsArea at width height o w h) q
  found_all o w None wide none =
      λ x y free. no_tops o w (λ i j. Unit) wide (λ i j among. tt) (λ i j among holds. none i j (grind arith, holds)) x y
      tt free
  found_all o w (Some q) wide (x, y, is, (from, (top, free)), least) = (
    x,
    y,
    is,
    free,
    λ i j before other.
        no_tops o w (λ i j. IsEarlier (i, j) (x, y)) wide (λ i j among. grind arith)
        (λ i j among holds. least i j among (grind arith, holds)) i j before other,
  )
