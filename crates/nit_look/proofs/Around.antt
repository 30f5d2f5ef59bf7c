-- The area that is bounded by the outermost edges of some.
use Rattle.nit_look.proofs.Basics.{All, All-get_or, Area, IsAreaOf, List, arith, around, cond}
use Rattle.nit_look.proofs.Basics.{has_any, has_place, nat_tests, sum_by_more, take}
use Rattle.std.proofs.Common.{get_or, length, true, ℕ, ◌+◌, ◌<◌, ◌≡◌}
use Rattle.nit_look.proofs.Added.{around_other, around_own}

around_on : (width height : ℕ) (a b : Area) → IsAreaOf width height a → IsAreaOf width height b
    → IsAreaOf width height (around a b)
around_on width height a b one other = record {
  across = omega (arith, one.across);
  down = omega (arith, one.down);
  wide = omega (arith, one.wide, other.wide);
  high = omega (arith, one.high, other.high);
}

module _ (areas : List Area) (k : ℕ) (d part all : Area) (less : k < length areas) (at : part ≡ get_or areas k d) where
  pub one_more_on : (width height : ℕ) → All (IsAreaOf width height) areas → IsAreaOf width height all
      → IsAreaOf width height (around all part)
  one_more_on width height on one = around_on width height all part one
      (rw (← at) at (All-get_or (IsAreaOf width height) areas k d less on))

  pub one_more_in : ((x y : ℕ) → has_any (take k areas) x y ≡ true → has_place all x y ≡ true) → (x y : ℕ)
      → has_any (take (k + 1) areas) x y ≡ true → has_place (around all part) x y ≡ true
  one_more_in known x y is =
      let count = rw (← at) at (sum_by_more (λ (p : Area). cond (has_place p x y) 1 0) areas k d less) in
      grind (arith, nat_tests, count, known x y, around_own all part x y, around_other all part x y)
