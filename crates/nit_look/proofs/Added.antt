-- Areas that become one with another area, and an area that is added.
use Rattle.std.proofs.Common.{[], false, refl, sym, true, ℕ, ◌++◌, ◌+◌, ◌<◌, ◌∙◌, ◌∷◌, ◌≡◌, List}
use Rattle.std.proofs.Common.{arith, cond, get_or, length, take, max, remove, slice_get, suc, zero}
use Rattle.std.proofs.Common.{◌||◌}
use Rattle.nit_look.proofs.Basics.{All, All-append, All-drop, All-get_or, All-push, All-take}
use Rattle.nit_look.proofs.Basics.{AreParts, Area, HasPlaces, IsAreaAdded, IsApartFrom, IsJoined}
use Rattle.nit_look.proofs.Basics.{IsSomeAnd, around, false≢true, get_or-le-sum_by, has_any}
use Rattle.nit_look.proofs.Basics.{has_place, is_area_within, length-append, length-remove, list_any}
use Rattle.nit_look.proofs.Basics.{areas_meet, most_parts, nat_tests, sum_by-cons, sum_by-remove}
use Rattle.nit_look.proofs.Basics.{sum_by_push, areas_over}

-- what holds of what stands at a place holds of what was read there
pub read_at : (P : Area → Type 0) (areas : List Area) (k : ℕ) (part : Area) → part ≡ get_or areas k part
    → IsSomeAnd (slice_get areas k) P → (k < length areas) × P part
read_at P [] k part at is = absurd is
read_at P (a ∷ areas) zero part at is = (omega arith, rw at is)
read_at P (a ∷ areas) (suc k) part at is =
    let rest = read_at P areas k part at is in
    (omega (arith, rest.0), rest.1)

-- ---- two areas

pub around_own : (a b : Area) (x y : ℕ) → has_place a x y ≡ true → has_place (around a b) x y ≡ true
around_own a b x y is = grind (arith, nat_tests)

pub around_other : (a b : Area) (x y : ℕ) → has_place b x y ≡ true → has_place (around a b) x y ≡ true
around_other a b x y is = grind (arith, nat_tests)

around_within : (a b c : Area) → is_area_within a c ≡ true → is_area_within b c ≡ true → is_area_within (around a b) c ≡ true
around_within a b c one other = grind (arith, nat_tests)

around_places : (a b : Area) → HasPlaces a → HasPlaces (around a b)
around_places a b some = record { across = omega (arith, some.across); down = omega (arith, some.down) }

inside_other : (a b : Area) (x y : ℕ) → is_area_within a b ≡ true → has_place a x y ≡ true → has_place b x y ≡ true
inside_other a b x y within is = grind (arith, nat_tests)

first_place : (a : Area) → HasPlaces a → has_place a a.left a.top ≡ true
first_place a some = grind (arith, nat_tests, some.across, some.down)

-- a pixel of both
common : (a b : Area) → HasPlaces a → HasPlaces b → areas_meet a b ≡ true
    → (has_place a (max a.left b.left) (max a.top b.top) ≡ true)
    × (has_place b (max a.left b.left) (max a.top b.top) ≡ true)
common a b some more met =
    (grind (arith, nat_tests, some.across, some.down), grind (arith, nat_tests, more.across, more.down))

not_met : (a b : Area) (x y : ℕ) → areas_meet a b ≡ false → has_place b x y ≡ true → has_place a x y ≡ false
not_met a b x y apart is = grind (arith, nat_tests)

-- ---- how many areas have a pixel

areas_over-cons : (a : Area) (areas : List Area) (x y : ℕ)
    → areas_over (a ∷ areas) x y ≡ cond (has_place a x y) 1 0 + areas_over areas x y
areas_over-cons a areas x y = sum_by-cons (λ (p : Area). cond (has_place p x y) 1 0) a areas

times_push : (areas : List Area) (a : Area) (x y : ℕ)
    → areas_over (areas ++ a ∷ []) x y ≡ areas_over areas x y + cond (has_place a x y) 1 0
times_push areas a x y = sum_by_push (λ (p : Area). cond (has_place p x y) 1 0) areas a

areas_over-remove : (areas : List Area) (k : ℕ) (d : Area) (x y : ℕ) → k < length areas
    → areas_over (remove areas k) x y + cond (has_place (get_or areas k d) x y) 1 0 ≡ areas_over areas x y
areas_over-remove areas k d x y less = sum_by-remove (λ (p : Area). cond (has_place p x y) 1 0) areas k d less

times_at : (areas : List Area) (k : ℕ) (d : Area) (x y : ℕ) → k < length areas
    → has_place (get_or areas k d) x y ≡ true → has_any areas x y ≡ true
times_at areas k d x y less is =
    let one = get_or-le-sum_by (λ (p : Area). cond (has_place p x y) 1 0) areas k d less in
    grind (arith, nat_tests)

-- none of the areas that a pixel's area does not meet has it
none_met : (one : Area) (areas : List Area) (x y : ℕ) → list_any (λ a. areas_meet a one) areas ≡ false
    → has_place one x y ≡ true → areas_over areas x y ≡ 0
none_met one [] x y none is = refl
none_met one (a ∷ areas) x y none is =
    grind (arith, nat_tests, areas_over-cons a areas x y, none_met one areas x y, not_met a one x y)

pub apart_from : (one : Area) (areas : List Area) → list_any (λ a. areas_meet a one) areas ≡ false → IsApartFrom one areas
apart_from one areas none x y is = let zero = none_met one areas x y none is in grind (arith, nat_tests)

-- an area that lies in one of them
inside_any : (a : Area) (areas : List Area) (x y : ℕ) → list_any (is_area_within a) areas ≡ true
    → has_place a x y ≡ true → 0 < areas_over areas x y
inside_any a [] x y inside is = absurd (false≢true inside)
inside_any a (p ∷ areas) x y inside is =
    grind (arith, nat_tests, areas_over-cons p areas x y, inside_any a areas x y, inside_other a p x y)

-- ---- a step: one of the areas is taken out

pub joined_none : (areas : List Area) (one : Area) → IsJoined areas one areas one
joined_none areas one = record {
  fewer = omega arith;
  parts = λ are. are;
  pixels = λ some. some;
  own = λ x y is. is;
  within = λ a all is. (all, is);
}

pub joined_more : (old mid new : List Area) (one some all : Area) → IsJoined old one mid some
    → IsJoined mid some new all → IsJoined old one new all
joined_more old mid new one some all first second = record {
  fewer = omega (arith, first.fewer, second.fewer);
  parts = λ are. second.parts (first.parts are);
  pixels = λ is. second.pixels (first.pixels is);
  own = λ x y is. second.own x y (first.own x y is);
  within = λ a inside is. let at = first.within a inside is in second.within a at.0 at.1;
}

module _ (areas : List Area) (k : ℕ) (part one : Area) (less : k < length areas) (at : part ≡ get_or areas k part) where
  all_kept : (P : Area → Type 0) → All P areas → All P (remove areas k)
  all_kept P all = All-append P (take k areas) _ (All-take P k areas all) (All-drop P (suc k) areas all)

  kept_parts : AreParts areas → AreParts (remove areas k)
  kept_parts are = record {
    few = omega (arith, are.few, length-remove areas k less);
    pixels = all_kept HasPlaces are.pixels;
    once = λ x y. omega (arith, are.once x y, areas_over-remove areas k part x y less);
  }

  kept_own : (x y : ℕ) → (has_place one x y || has_any areas x y) ≡ true
      → (has_place (around one part) x y || has_any (remove areas k) x y) ≡ true
  kept_own x y is =
      let count = rw (← at) at (areas_over-remove areas k part x y less) in
      grind (arith, nat_tests, count, around_own one part x y, around_other one part x y)

  pub joined_one : IsJoined areas one (remove areas k) (around one part)
  joined_one = record {
    fewer = omega (arith, length-remove areas k less);
    parts = kept_parts;
    pixels = around_places one part;
    own = kept_own;
    within = λ a all is.
        let inside : Area → Type 0 = λ p. is_area_within p a ≡ true in
        (all_kept inside all, around_within one part a is (rw (← at) at (All-get_or inside areas k part less all)));
  }

  -- it is one that areas_meet the area
  pub met_not_apart : AreParts areas → HasPlaces one → areas_meet part one ≡ true → IsApartFrom one areas → ⊥
  met_not_apart are some met apart =
      let there : HasPlaces part = rw (← at) at (All-get_or HasPlaces areas k part less are.pixels) in
      let pixel = common part one there some met in
      let x = max part.left one.left in
      let y = max part.top one.top in
      false≢true (sym (apart x y pixel.1) ∙ times_at areas k part x y less (rw (← at) pixel.0))

-- ---- an area is added

pub added_none : (old : List Area) (a : Area) → ((x y : ℕ) → has_place a x y ≡ false) → IsAreaAdded old a old
added_none old a none = record {
  kept = λ x y is. is;
  own = λ x y is. absurd (false≢true (sym (none x y) ∙ is));
  within = λ b all is. all;
  empty = λ e. refl;
  inside = λ e. refl;
  apart = λ some few apart. absurd (false≢true (sym (none a.left a.top) ∙ first_place a some));
}

pub added_inside : (old : List Area) (a : Area) → list_any (is_area_within a) old ≡ true → IsAreaAdded old a old
added_inside old a inside = record {
  kept = λ x y is. is;
  own = λ x y is. let more = inside_any a old x y inside is in grind (arith, nat_tests);
  within = λ b all is. all;
  empty = λ e. refl;
  inside = λ e. refl;
  apart = λ some few apart.
      let is = first_place a some in
      let more = inside_any a old a.left a.top inside is in
      absurd (false≢true (sym (apart a.left a.top is) ∙ grind (arith, nat_tests)));
}

module _ (old new : List Area) (a all : Area) (some : HasPlaces a) (joined : IsJoined old a new all)
    (apart : IsApartFrom all new) where
  pub added_parts : AreParts old → length new < most_parts → AreParts (new ++ all ∷ [])
  added_parts are room =
      let parts = joined.parts are in
      record {
        few = omega (arith, length-append new (all ∷ []));
        pixels = All-push HasPlaces new all parts.pixels (joined.pixels some);
        once = λ x y. grind (arith, nat_tests, times_push new all x y, parts.once x y, apart x y);
      }

  pub added_last : list_any (is_area_within a) old ≡ false
      → (length old < most_parts → IsApartFrom a old → (new ≡ old) × (all ≡ a)) → IsAreaAdded old a (new ++ all ∷ [])
  added_last outside same = record {
    kept = λ x y is. grind (arith, nat_tests, joined.own x y, times_push new all x y);
    own = λ x y is. grind (arith, nat_tests, joined.own x y, times_push new all x y);
    within = λ b held is.
        let at = joined.within b held is in
        All-push (λ p. is_area_within p b ≡ true) new all at.0 at.1;
    empty = λ none. absurd (false≢true (sym (none a.left a.top) ∙ first_place a some));
    inside = λ inside. absurd (false≢true (sym outside ∙ inside));
    apart = λ places few is. let e = same few is in rw (e.0, e.1) refl;
  }
