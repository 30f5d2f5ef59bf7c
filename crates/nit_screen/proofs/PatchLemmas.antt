-- Rows of the map are written patch by patch from the front.
use Rattle.std.proofs.Common.{Bool, List, None, Option, Some, [], add-one, ap, arith, cond, false}
use Rattle.std.proofs.Common.{find, inl, inr, length, map, option_map, refl, set, slice_get}
use Rattle.std.proofs.Common.{slice_index, slice_index_or, suc, sym, take, take_all, true, zero, ℕ}
use Rattle.std.proofs.Common.{◌&&◌, ◌+◌, ◌<◌, ◌==◌, ◌∙◌, ◌∷◌, ◌≡◌, ◌≤◌, ◌⊎◌}
use Rattle.std.proofs.lemmas.Option.{slice_get-get_or}
use Rattle.std.proofs.lemmas.Bool.{cases_lt}
use Rattle.std.proofs.lemmas.Bool.Decides.{nat_tests}
use Rattle.nit_screen.proofs.Basics.{All_found, AreNumbered, ArePatches, AreSkips, IsBegun, IsPatch}
use Rattle.nit_screen.proofs.Basics.{IsRowOfMap, SkipsFilled, IsSlotView, IsStack, Patch, Rectangle}
use Rattle.nit_screen.proofs.Basics.{SlotView, StackModel, ViewRef, covers, first_at, has}
use Rattle.nit_screen.proofs.Basics.{is_between, is_filled, no_slot, number_in, number_of}
use Rattle.nit_screen.proofs.Basics.{number_or_none, numbered, point, same_Some, slot_at, view_ref}

-- ---- what is found among the first so many

find_front : {A : Type 0} (q : A → Bool) (xs : List A) (i : ℕ) (b : A) → find q (take i xs) ≡ Some b
    → find q xs ≡ Some b
find_front q [] zero b at = at
find_front q [] (suc i) b at = at
find_front q (x ∷ xs) zero b at = cc
find_front q (x ∷ xs) (suc i) b at = grind (arith, find_front q xs i b)

abbrev or_else : {A : Type 0} → Option A → Option A → Option A
or_else (Some a) o = Some a
or_else None o = o

find_next : {A : Type 0} (q : A → Bool) (xs : List A) (i : ℕ) (x : A) → slice_get xs i ≡ Some x
    → find q (take (suc i) xs) ≡ or_else (find q (take i xs)) (cond (q x) (Some x) None)
find_next q [] i x at = cc
find_next q (y ∷ ys) zero x at = grind arith
find_next q (y ∷ ys) (suc i) x at = grind (arith, find_next q ys i x at)

find_set : {A : Type 0} (q : A → Bool) (xs : List A) (n : ℕ) (a : A) → n < length xs
    → find q (take (suc n) (set xs n a)) ≡ or_else (find q (take n xs)) (cond (q a) (Some a) None)
find_set q [] n a lt = absurd (omega arith)
find_set q (x ∷ xs) zero a lt = grind arith
find_set q (x ∷ xs) (suc n) a lt = grind (arith, find_set q xs n a)

-- ---- numbers

number_of_found : (width : ℕ) (patches : List Patch) (q : Patch → Bool) (b : Patch) → ArePatches width patches
    → find q patches ≡ Some b → b.number < no_slot
number_of_found width [] q b are at = cc
number_of_found width (s ∷ patches) q b are at =
    let here = (are 0 s refl).number in
    let rest = number_of_found width patches q b (λ i t found. are (suc i) t found) in
    grind (arith, here, rest)

-- a pixel that has a number keeps it, and one that has none gets the next patch's where that has it
next_number : (o : Option Patch) (s : Patch) (c : Bool) → ((b : Patch) → o ≡ Some b → b.number < no_slot)
    → numbered c s.number (number_or_none o) ≡ number_or_none (or_else o (cond c (Some s) None))
next_number None s true slots = grind (arith, nat_tests)
next_number None s false slots = grind (arith, nat_tests)
next_number (Some b) s c slots = let lt = slots b refl in grind (arith, nat_tests)

-- ---- rows

filled_still : (old new number : ℕ) (c : Bool) → number < no_slot → new ≡ numbered c number old
    → (old == no_slot) ≡ false → (new == no_slot) ≡ false
filled_still old new number c lt is filled = grind (arith, nat_tests)

-- all pixels up to a column have a number, and so up to the one where it goes on
pub full_on : (chosen : ℕ → Bool) (number width first more : ℕ) (row row' : List ℕ) → number < no_slot
    → AreNumbered chosen number row row' → first ≤ length row → ((x : ℕ) → x < first → is_filled row x ≡ true)
    → SkipsFilled (is_filled row') width first more → (x : ℕ) → x < more → is_filled row' x ≡ true
full_on chosen number width first more row row' slot filled reached full skip x lt = elim (cases_lt x first) [
  | inl less ↦
      let was = full x less in
      let here = filled.words x (omega arith) in
      let still = filled_still (slice_index row x) (slice_index row' x) number (chosen x) slot here in
      grind (arith, nat_tests, was, still)
  | inr le ↦ skip.all x le lt
]

module _ (patches : List Patch) (width : ℕ) where
  pub patch_at : (i : ℕ) (d : Patch) → ArePatches width patches → i < length patches → IsPatch width (slice_index_or patches i d)
  patch_at i d are lt = are i _ (slice_get-get_or patches i d lt)

  pub next_begun : (y end end' i : ℕ) (row next row' next' : List ℕ) (d : Patch) (b : Bool) → ArePatches width patches
      → IsBegun patches width y end i row next → i < length patches → end' ≤ end
      → ((z : ℕ) → y ≤ z → z < end'
      → is_between (slice_index_or patches i d).top (slice_index_or patches i d).bottom z ≡ b)
      → IsRowOfMap width row' next'
      → AreNumbered (λ x. b && is_between (slice_index_or patches i d).left (slice_index_or patches i d).right x)
      (slice_index_or patches i d).number row row'
      → AreSkips (is_filled row') next' → IsBegun patches width y end' (i + 1) row' next'
  next_begun y end end' i row next row' next' d b are far inside le rows count filled skips = record {
    count = count;
    words = λ x z lt from less.
        let s = slice_index_or patches i d in
        let here = filled.words x (omega (arith, far.count.pixels)) in
        let was = far.words x z lt from (omega arith) in
        let more = find_next (λ a. has a x z) patches i s (slice_get-get_or patches i d inside) in
        let new = next_number (find (λ a. has a x z) (take i patches)) s (has s x z)
        (λ b found. number_of_found width patches (λ a. has a x z) b are (find_front (λ a. has a x z) patches i b found)) in
        let in_row = rows z from less in
        here ∙ rw (was, ← in_row) (new ∙ rw (add-one i) (ap number_or_none (sym more)));
    skips = skips;
  }

  some_found : (o : Option Patch) → (number_or_none o == no_slot) ≡ false → (b : Patch) × (o ≡ Some b)
  some_found None is = absurd (grind (arith, nat_tests))
  some_found (Some b) is = (b, refl)

  -- the row is done: all patches are in it, or all of its pixels have a number
  pub whole : (y end i : ℕ) (row next : List ℕ) → IsBegun patches width y end i row next
      → (length patches ≤ i) ⊎ ((x : ℕ) → x < width → is_filled row x ≡ true)
      → (x z : ℕ) → x < width → y ≤ z → z < end → slice_index row x ≡ number_in patches x z
  whole y end i row next far (inl all) x z lt from less =
      far.words x z lt from less ∙ ap (λ (xs : List Patch). number_in xs x z) (take_all i patches all)
  whole y end i row next far (inr full) x z lt from less =
      let is = far.words x z lt from less in
      let has_one = full x lt in
      let b = some_found (find (λ a. has a x z) (take i patches)) (grind (arith, nat_tests, is, has_one)) in
      is ∙ ap number_or_none (b.1 ∙ sym (find_front (λ a. has a x z) patches i b.0 b.1))

-- ---- the patches that are kept

or_none : {A : Type 0} (o : Option A) → or_else o None ≡ o
or_none None = refl
or_none (Some a) = refl

pub are_kept : (width : ℕ) (kept : List Patch) (n : ℕ) (s : Patch) → n < length kept → IsPatch width s
    → ArePatches width (take n kept) → ArePatches width (take (suc n) (set kept n s))
are_kept width [] n s lt is are i t at = cc
are_kept width (x ∷ kept) zero s lt is are zero t at = let e : s ≡ t = cc in rw (← e) is
are_kept width (x ∷ kept) zero s lt is are (suc i) t at = cc
are_kept width (x ∷ kept) (suc n) s lt is are zero t at = are 0 t at
are_kept width (x ∷ kept) (suc n) s lt is are (suc i) t at =
    are_kept width kept n s (omega arith) is (λ k q found. are (suc k) q found) i t at

pub same_kept : (kept patches : List Patch) (n i : ℕ) (d : Patch) (x z : ℕ) → n < length kept → i < length patches
    → first_at (take n kept) x z ≡ first_at (take i patches) x z
    → first_at (take (n + 1) (set kept n (slice_index_or patches i d))) x z ≡ first_at (take (i + 1) patches) x z
same_kept kept patches n i d x z lt inside same =
    let s = slice_index_or patches i d in
    rw (add-one n, add-one i)
    (find_set (λ a. has a x z) kept n s lt
    ∙ rw same (sym (find_next (λ a. has a x z) patches i s (slice_get-get_or patches i d inside))))

pub same_dropped : (patches : List Patch) (i : ℕ) (d : Patch) (x z : ℕ) (o : Option Patch) → i < length patches
    → is_between (slice_index_or patches i d).top (slice_index_or patches i d).bottom z ≡ false
    → o ≡ first_at (take i patches) x z → o ≡ first_at (take (i + 1) patches) x z
same_dropped patches i d x z o inside not same =
    let s = slice_index_or patches i d in
    let none : has s x z ≡ false = rw not refl in
    let more = find_next (λ a. has a x z) patches i s (slice_get-get_or patches i d inside) in
    let all = or_none (find (λ a. has a x z) (take i patches)) in
    same ∙ sym (rw (add-one i) ((rw none at more) ∙ all))

-- ---- views and their patches

slot_next : (o : Option SlotView) (a : SlotView) (c : Bool) → ((b : SlotView) → o ≡ Some b → b.slot < no_slot)
    → numbered c a.slot (number_of o) ≡ number_of (or_else o (cond c (Some a) None))
slot_next None a true slots = grind (arith, nat_tests)
slot_next None a false slots = grind (arith, nat_tests)
slot_next (Some b) a c slots = let lt = slots b refl in grind (arith, nat_tests)

slot_of_front : (s : StackModel) (q : SlotView → Bool) (i : ℕ) (b : SlotView) → IsStack s
    → find q (take i s.views) ≡ Some b → b.slot < no_slot
slot_of_front s q i b standing at =
    let seat = All_found (IsSlotView s.most (length s.sizes)) q s.views b standing.seats
    (find_front q s.views i b at) in
    omega (arith, seat.slot, standing.room)

-- one patch more is as one view more
pub views_next : (s : StackModel) (patches : List Patch) (i x y : ℕ) (p : Patch) (v : ViewRef) (r : Rectangle) → IsStack s
    → i < length patches → ArePatches s.width (take i patches) → slice_get (map view_ref s.views) i ≡ Some v
    → option_map (λ (a : SlotView). a.view.rect) (slice_get s.views i) ≡ Some r → p.number ≡ v.0
    → has p x y ≡ covers r (point x y)
    → number_in (take i patches) x y ≡ number_of (find (λ a. covers a.view.rect (point x y)) (take i s.views))
    → number_in (take (i + 1) (set patches i p)) x y
    ≡ number_of (find (λ a. covers a.view.rect (point x y)) (take (i + 1) s.views))
views_next s patches i x y p v r standing lt are at shape number same before =
    let here = next_number (first_at (take i patches) x y) p (has p x y)
    (λ b found. number_of_found s.width (take i patches) (λ a. has a x y) b are found) in
    let there = slot_next (find q (take i s.views)) seat.0 (covers seat.0.view.rect (point x y))
    (λ b found. slot_of_front s q i b standing found) in
    let one : has p x y ≡ covers seat.0.view.rect (point x y) =
    same ∙ ap (λ (r : Rectangle). covers r (point x y)) shape' in
    let two : p.number ≡ seat.0.slot = number ∙ sym seat.2 in
    rw (add-one i)
    (ap number_or_none (find_set (λ a. has a x y) patches i p lt) ∙ sym here
    ∙ rw (before, one, two) there
    ∙ ap number_of (sym (find_next q s.views i seat.0 seat.1)))
  where
    q : SlotView → Bool
    q a = covers a.view.rect (point x y)

    seat : (a : SlotView) × (slice_get s.views i ≡ Some a) × (a.slot ≡ v.0)
    seat = slot_at s.views i v at

    shape' : r ≡ seat.0.view.rect
    shape' = same_Some _ _ (sym shape ∙ rw seat.1 refl)

pub and_swap : (a b : Bool) → (a && b) ≡ (b && a)
and_swap true true = refl
and_swap true false = refl
and_swap false true = refl
and_swap false false = refl
