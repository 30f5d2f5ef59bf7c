-- Areas of the screen to which others are added.
use Rattle.nit_host.proofs.Basics.{All, All-nil, AreParts, Area, HasPlaces, HasTouched, HoldsUnless}
use Rattle.nit_host.proofs.Basics.{IsAreaAdded, IsAreaOf, List, State, area_on, arith, has_place}
use Rattle.nit_host.proofs.Basics.{nat_tests, same_Some}
use Rattle.std.proofs.Common.{Some, [], false, true, ℕ, ◌<◌, ◌≡◌, ◌≤◌}
use Rattle.nit_look.specs.Area.{is_area_within, rectangle_over}
use Rattle.nit_look.specs.Look.{LiesOn}
use Rattle.nit_host.specs.declared.host.touch.Touch.TheVariants as touch

abbrev screen : ℕ → ℕ → Area
screen width height = record { left = 0; top = 0; right = width; bottom = height }

on_within : (width height : ℕ) (a : Area) → IsAreaOf width height a → is_area_within a (screen width height) ≡ true
on_within width height a on = grind (arith, nat_tests, on.wide, on.high)

within_on : (width height : ℕ) (a : Area) → HasPlaces a → is_area_within a (screen width height) ≡ true
    → IsAreaOf width height a
within_on width height a some within = record {
  across = omega (arith, some.across);
  down = omega (arith, some.down);
  wide = grind (arith, nat_tests);
  high = grind (arith, nat_tests);
}

-- so does its rectangle
pub area_lies : (width height : ℕ) (a : Area) → IsAreaOf width height a → LiesOn width height (rectangle_over a)
area_lies width height a on = grind (arith, nat_tests, on.across, on.down, on.wide, on.high)

-- areas of a screen, and one more
pub added_on : (width height : ℕ) (old : List Area) (a : Area) (new : List Area) → IsAreaAdded old a new → AreParts new
    → All (IsAreaOf width height) old → IsAreaOf width height a → All (IsAreaOf width height) new
added_on width height old a new added are on one =
    let all = added.within (screen width height) (λ k d less. on_within width height _ (on k d less))
    (on_within width height a one) in
    λ k d less. within_on width height _ (are.pixels k d less) (all k d less)

-- the first one is all of the screen
pub whole_on : (width height : ℕ) (a : Area) (new : List Area) → IsAreaAdded [] a new → AreParts new
    → IsAreaOf width height a → All (IsAreaOf width height) new
whole_on width height a new added are one =
    added_on width height [] a new added are (All-nil (IsAreaOf width height)) one

-- two more
pub both_added : (old : List Area) (before : Area) (mid : List Area) (after : Area) (new : List Area)
    → IsAreaAdded old before mid → AreParts mid → IsAreaAdded mid after new → AreParts new
    → HoldsUnless false old before after new
both_added old before mid after new one are two are' = record {
  screen = λ width height on first second.
      added_on width height mid after new two are' (added_on width height old before mid one are on first) second;
  own = λ x y is. two.kept x y (one.kept x y is);
  first = λ other x y is. two.kept x y (one.own x y is);
  second = λ other x y is. two.own x y is;
}

-- all of the screen is touched
pub screen_touched : (s : State) (seat : ℕ) (old : List Area) (a : Area) (new : List Area) → IsAreaAdded old a new
    → AreParts new → IsAreaOf s.config.width s.config.height a
    → ((x y : ℕ) → x < s.config.width → y < s.config.height → has_place a x y ≡ true)
    → HasTouched s seat touch.Screen old new
screen_touched s seat old a new added are on all = record {
  screen = λ olds. added_on s.config.width s.config.height old a new added are olds on;
  own = added.kept;
  touched = record {
    bare = λ x y wide high is. added.own x y (all x y wide high);
    views = λ i x y v there wide high is. added.own x y (all x y wide high);
  };
}

-- an area of the screen that is copied
pub copied_on : (width height : ℕ) (a b : Area) → Some b ≡ area_on width height a → b.bottom ≤ height
copied_on width height a b is = grind (arith, nat_tests, same_Some)
