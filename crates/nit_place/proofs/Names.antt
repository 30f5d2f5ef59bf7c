-- Views of different names, by their places in the stack.
use Rattle.std.proofs.Common.{Bool, List, [], ap, arith, false, find, inl, inr, length}
use Rattle.std.proofs.Common.{slice_index_or, suc, true, zero, ℕ, ◌<◌, ◌∙◌, ◌∷◌, ◌≡◌}
use Rattle.nit_place.proofs.Basics.{AllPairs, Any, NoPair, SlotView, View, before_first, cases_lt}
use Rattle.nit_place.proofs.Basics.{fails_before_first, false_from_ne_true, find_at, fresh}
use Rattle.nit_place.proofs.Basics.{get_or-map, get_or-take, get_or_default, is_owner, is_view}
use Rattle.nit_place.proofs.Basics.{length-map, length-take-le, list_any_at, nat_tests}
use Rattle.nit_place.proofs.Basics.{passes_at_first, position_or_len, position_or_len_is, same_name}
use Rattle.nit_place.proofs.Basics.{slice_get-get_or, slice_get_past, views_of}

-- no view has the name of a later one
abbrev pub NamesDiffer : List View → Type 0
NamesDiffer stack = AllPairs (λ a b. is_view a.sid a.handle b ≡ false) stack

-- the view at a place
abbrev pub seat : List View → ℕ → View
seat stack k = slice_index_or stack k (fresh 0 0)

-- the view stands at this place, and has its name alone
pub record StandsAt (stack : List View) (n : ℕ) (v : View) : Type 0 where
  pub within : n < length stack
  pub view : seat stack n ≡ v
  pub names : NamesDiffer stack

seats_differ : (seats : List SlotView) → NoPair same_name seats → AllPairs (λ a b. same_name a b ≡ false) seats
seats_differ [] h i j d lt within = absurd (omega arith)
seats_differ (s ∷ seats) h i zero d lt within = absurd (omega arith)
seats_differ (s ∷ seats) h zero (suc j) d lt within =
    false_from_ne_true _ (λ e. let some = list_any_at (same_name s) seats j d (omega arith) e in cc)
seats_differ (s ∷ seats) h (suc i) (suc j) d lt within = seats_differ seats h.1 i j d (omega arith) (omega arith)

pub names_differ : (seats : List SlotView) → NoPair same_name seats → SlotView → NamesDiffer (views_of seats)
names_differ seats h e i j d lt within =
    let inside : j < length seats = omega (arith, length-map seats (λ (s : SlotView). s.view)) in
    let at = λ (k : ℕ). get_or-map (λ (s : SlotView). s.view) seats k e d in
    rw (at i (omega arith), at j inside) (seats_differ seats h i j e lt inside)

-- either view may come first
pub name_both : (a b : View) → is_view a.sid a.handle b ≡ is_view b.sid b.handle a
name_both a b = grind (arith, nat_tests)

-- the first n elements fail a test and the next one passes it
pub record IsFirstAt (p : View → Bool) (stack : List View) (n : ℕ) (v : View) : Type 0 where
  pub fails : (k : ℕ) → k < n → p (seat stack k) ≡ false
  pub holds : p v ≡ true

module _ (stack : List View) (n : ℕ) (v : View) (there : StandsAt stack n v) where
  -- only the view itself has its name
  only_there : (k : ℕ) → k < length stack → is_view v.sid v.handle (seat stack k) ≡ true → k ≡ n
  only_there k within named = grind (arith, nat_tests, there.names k n (fresh 0 0), there.names n k (fresh 0 0))

  place_of : (p : View → Bool) → IsFirstAt p stack n v → position_or_len p stack ≡ n
  place_of p first =
      position_or_len_is p stack n (fresh 0 0) (omega arith) first.fails (λ _. ap p there.view ∙ first.holds)

  -- what is found has the view's name where the view is the first to pass
  pub owner_of : (p : View → Bool) → IsFirstAt p stack n v → is_owner v.sid v.handle (find p stack) ≡ true
  owner_of p first =
      rw (find_at p stack, place_of p first, slice_get-get_or stack n (fresh 0 0) there.within, there.view)
      (grind (arith, nat_tests))

  -- where what is found has the view's name, the view is the first to pass
  pub owned_by : (p : View → Bool) → is_owner v.sid v.handle (find p stack) ≡ true → IsFirstAt p stack n v
  owned_by p owned =
      let found = rw (find_at p stack) at owned in
      elim (cases_lt (position_or_len p stack) (length stack)) [
        | inl within ↦
            let place = only_there (position_or_len p stack) within
            (rw (slice_get-get_or stack (position_or_len p stack) (fresh 0 0) within) at found) in
            record {
              fails = λ k lt. fails_before_first p stack k (fresh 0 0) (omega arith);
              holds = rw (place, there.view) at (passes_at_first p stack (fresh 0 0) within);
            }
        | inr past ↦ let none = rw (slice_get_past stack (position_or_len p stack) past) at found in cc
      ]

  -- what holds of a view in front holds of some view before the first of that name
  pub some_in_front : (P : View → Type 0) (k : ℕ) → k < n → P (seat stack k)
      → Any P (before_first (is_view v.sid v.handle) stack)
  some_in_front P k lt holds =
      let front : IsFirstAt (is_view v.sid v.handle) stack n v = record {
        fails = λ k lt. false_from_ne_true _ (λ e. absurd (omega (arith, only_there k (omega arith) e)));
        holds = grind (arith, nat_tests);
      } in
      rw (place_of _ front) (
        k,
        seat stack k,
        omega (arith, length-take-le n stack),
        get_or-take n stack k (seat stack k) lt ∙ get_or_default stack k _ (fresh 0 0) (omega arith),
        holds,
      )
