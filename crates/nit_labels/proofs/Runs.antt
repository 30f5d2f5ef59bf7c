-- Runs of columns of one owner, and where its rectangle is free.
use Rattle.std.proofs.Common.{List, arith, ℕ, ◌+◌, ◌-◌, ◌<◌, ◌≡◌, ◌≤◌, inl, inr}
use Rattle.std.proofs.Common.{sym, ◌∙◌}
use Rattle.nit_labels.proofs.Basics.{AreDown, OwnsDown, OwnsArea, IsOfRun, IsRowOf, IsRun}
use Rattle.nit_labels.proofs.Basics.{cases_lt, slice_index_or}
use Rattle.nit_labels.proofs.Counts.{column_down, down_column}

module _ (at : ℕ → ℕ → ℕ) (width height h : ℕ) where
  -- the top of a column is of its owner
  column_top : (o x y : ℕ) → 1 ≤ h → OwnsDown at height h o x y → at x y ≡ o
  column_top o x y high column = column.own y (omega arith) (omega arith)

  -- the columns of a run, before one that does not go on
  pub run_row : (x s n y : ℕ) (row down : List ℕ) → 1 ≤ h → IsRowOf at width y row → AreDown at width height h y down
      → n ≡ x + 1 → n ≤ width → s ≤ x → ((k : ℕ) → s ≤ k → k ≤ x → IsOfRun row down h x k)
      → (n < width → slice_index_or down n 0 ≡ h → IsOfRun row down h n x → ⊥) → IsRun at width height h s y (n - s)
  run_row x s n y row down high is are next within from all other = record {
    within = omega arith;
    own = λ i left to.
        let here = all i left (omega arith) in
        down_column at height h (at s y) i y _ (are i (omega arith))
        (sym first ∙ sym here.0 ∙ is.owners i (omega arith)) here.1;
    more = λ low column.
        let e : s + (n - s) ≡ n = omega arith in
        let lt : n < width = omega arith in
        let column' = rw e at column in
        let top = column_top (at s y) n y high column' in
        other lt (column_down at height h (at s y) n y _ (are n lt) (sym top) column')
        (first ∙ sym top ∙ sym (is.owners n lt), (all x from (omega arith)).1);
  }
    where
      first : slice_index_or row x 0 ≡ at s y
      first = sym (all s (omega arith) from).0 ∙ is.owners s (omega arith)

  -- the rectangle is free exactly where the run is as long as it is wide
  pub run_free : (o w x y r : ℕ) → 1 ≤ w → o ≡ at x y → w ≤ r → IsRun at width height h x y r
      → OwnsArea at width height o w h x y
  run_free o w x y r wide is long run = record {
    right = omega (arith, run.within);
    bottom = (run.own x (omega arith) (omega arith)).bottom;
    own = λ i j left right top bottom.
        (run.own i left (omega arith)).own j top bottom ∙ sym is;
  }

  -- no other owner's rectangle is free in a run, nor one that is wider
  pub free_run : (o w x y r i : ℕ) → 1 ≤ w → 1 ≤ h → IsRun at width height h x y r → x ≤ i → i < x + r
      → OwnsArea at width height o w h i y → (at x y ≡ o) × (w ≤ r)
  free_run o w x y r i wide high run from to free =
      let here : at i y ≡ o = free.own i y (omega arith) (omega arith) (omega arith) (omega arith) in
      let top : at x y ≡ o = sym (column_top (at x y) i y high (run.own i from to)) ∙ here in (
        top,
        elim (cases_lt r w) [
          | inl less ↦ absurd (run.more (omega (arith, free.right)) (record {
            bottom = free.bottom;
            own = λ j above below.
                free.own (x + r) j (omega arith) (omega arith) above below ∙ sym top;
          }))
          | inr le ↦ le
        ],
      )
