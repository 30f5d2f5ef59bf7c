-- The free slots of a list, and the taken ones beside them.
use Rattle.std.proofs.Common.{List, Some, [], ap, arith, false, get_or, length, length-append, not}
use Rattle.std.proofs.Common.{refl, suc, sym, true, zero, ℕ, ◌++◌, ◌+◌, ◌<◌, ◌==◌, ◌∷◌, ◌≡◌, ◌≢◌}
use Rattle.nit_slots.proofs.Basics.{All-filter, All-pop, All-push, AreSlots, Differ, IsFreeList}
use Rattle.nit_slots.proofs.Basics.{IsStrictlyIncreasing-filter, both_ways, eq-eqb}
use Rattle.nit_slots.proofs.Basics.{false_from_ne_true, get_or-range_with_len, is_slot_among}
use Rattle.nit_slots.proofs.Basics.{length-range_with_len, list_any-append, list_any_at, nat_tests}
use Rattle.nit_slots.proofs.Basics.{not-true, range_with_len, taken_beside, with_slot, without_slot}
use Rattle.nit_slots.proofs.Ranges.{among_range, filter_with, filter_without, length-with_slot}
use Rattle.nit_slots.proofs.Ranges.{none_passes, range_below, range_rises}

-- a slot at the end of a list makes no difference for the others
among_push : (free : List ℕ) (k j : ℕ) → j ≢ k → is_slot_among (free ++ k ∷ []) j ≡ is_slot_among free j
among_push free k j ne = grind (arith, nat_tests, list_any-append (λ s. s == j) free (k ∷ []))

-- the last slot of a list is among them
among_last : (free : List ℕ) (k : ℕ) → is_slot_among (free ++ k ∷ []) k ≡ true
among_last free k = grind (arith, nat_tests, list_any-append (λ s. s == k) free (k ∷ []))

-- one slot more, which was not among them
Differ-push : (free : List ℕ) (k : ℕ) → Differ free → is_slot_among free k ≡ false → Differ (free ++ k ∷ [])
Differ-push [] k d h = (refl, tt)
Differ-push (x ∷ free) k d h =
    let rest = Differ-push free k d.1 in
    grind (arith, nat_tests, list_any-append (λ s. s == x) free (k ∷ []))

-- the last slot of a list stands nowhere before
Differ-front : (free : List ℕ) (k : ℕ) → Differ (free ++ k ∷ []) → Differ free × (is_slot_among free k ≡ false)
Differ-front [] k d = (tt, refl)
Differ-front (x ∷ free) k d =
    let rest = Differ-front free k d.1 in
    grind (arith, nat_tests, list_any-append (λ s. s == x) free (k ∷ []))

-- when a free slot is taken, it joins the taken ones
pub taken_more : (free : List ℕ) (k total : ℕ) → k < total → is_slot_among free k ≡ false
    → taken_beside free total ≡ with_slot (taken_beside (free ++ k ∷ []) total) k
taken_more free k total l h =
    filter_with (λ j. not (is_slot_among (free ++ k ∷ []) j)) (λ j. not (is_slot_among free j)) k 0 total (omega arith)
    (omega arith)
    (ap not (among_last free k)) (ap not h) (λ j ne. ap not (sym (among_push free k j ne)))

-- with one free slot more there is one taken slot less
pub length_taken_less : (free : List ℕ) (k total : ℕ) → k < total → is_slot_among free k ≡ false
    → length (taken_beside (free ++ k ∷ []) total) + 1 ≡ length (taken_beside free total)
length_taken_less free k total l h =
    omega (arith, ap length (taken_more free k total l h), length-with_slot k (taken_beside (free ++ k ∷ []) total))

-- the list that is left when the last free slot is taken
pub free_front : (free : List ℕ) (k total : ℕ) → IsFreeList (free ++ k ∷ []) total → IsFreeList free total
free_front free k total i =
    let parts = All-pop (λ j. j < total) (free ++ k ∷ []) free (Some k) refl i.below in
    let differ = Differ-front free k i.different in
    let one_more = length_taken_less free k total parts.1 differ.1 in
    record {
      below = parts.0;
      different = differ.0;
      whole = omega (arith, i.whole, one_more, length-append free (k ∷ []));
    }

-- the last free slot is below the total and free once
pub last_below : (free : List ℕ) (k total : ℕ) → IsFreeList (free ++ k ∷ []) total
    → (k < total) × (is_slot_among free k ≡ false)
last_below free k total i = (
  (All-pop (λ j. j < total) (free ++ k ∷ []) free (Some k) refl i.below).1,
  (Differ-front free k i.different).1,
)

-- the list to which a taken slot was given back
pub free_push : (free : List ℕ) (k total : ℕ) → k < total → is_slot_among free k ≡ false → IsFreeList free total
    → IsFreeList (free ++ k ∷ []) total
free_push free k total l h i =
    let one_more = length_taken_less free k total l h in
    record {
      below = All-push (λ j. j < total) free k i.below l;
      different = Differ-push free k i.different h;
      whole = omega (arith, i.whole, one_more, length-append free (k ∷ []));
    }

-- when a slot is given back, it leaves the taken ones
pub taken_less : (free : List ℕ) (k total : ℕ) → taken_beside (free ++ k ∷ []) total
    ≡ without_slot (taken_beside free total) k
taken_less free k total =
    filter_without (λ j. not (is_slot_among free j)) (λ j. not (is_slot_among (free ++ k ∷ []) j)) k (ap not (among_last free k))
    (λ j ne. ap not (among_push free k j ne)) (range_with_len 0 total)

-- a taken slot is below the total and not free
pub taken_apart : (free : List ℕ) (k total : ℕ) → is_slot_among (taken_beside free total) k ≡ true
    → (k < total) × (is_slot_among free k ≡ false)
taken_apart free k total h = let w =
    among_range (λ j. not (is_slot_among free j)) k 0 total h in (omega (arith, w.1), not-true (is_slot_among free k) w.0)

-- a free slot is not taken
pub last_not_taken : (free : List ℕ) (k total : ℕ) → is_slot_among (taken_beside (free ++ k ∷ []) total) k ≡ false
last_not_taken free k total =
    false_from_ne_true _ (λ h. both_ways (is_slot_among (free ++ k ∷ []) k) (taken_apart (free ++ k ∷ []) k total h).1
    (among_last free k))

-- the slots beside the free ones rise below the total
pub occupied : (free : List ℕ) (total : ℕ) → AreSlots (record { total = total; taken = taken_beside free total })
occupied free total = record {
  below = All-filter (λ j. not (is_slot_among free j)) (λ k. k < total) (range_with_len 0 total) (range_below total);
  rising = IsStrictlyIncreasing-filter (λ j. not (is_slot_among free j)) (range_with_len 0 total) (range_rises total);
}

-- a slot below a range is not among it
among_above : (k a n : ℕ) → k < a → is_slot_among (range_with_len a n) k ≡ false
among_above k a zero l = refl
among_above k a (suc n) l = grind (arith, nat_tests, among_above k (a + 1) n)

-- the slots of a range are different
range_differs : (a n : ℕ) → Differ (range_with_len a n)
range_differs a zero = tt
range_differs a (suc n) = (among_above a (a + 1) n (omega arith), range_differs (a + 1) n)

-- where every slot is free, none is taken
pub all_free : (total : ℕ) → taken_beside (range_with_len 0 total) total ≡ []
all_free total =
    none_passes (λ j. not (is_slot_among (range_with_len 0 total) j)) 0 total (λ j low high.
    let at : get_or (range_with_len 0 total) j 0 ≡ j = omega (arith, get_or-range_with_len 0 total j 0 (omega arith)) in
    ap not (list_any_at (λ s. s == j) (range_with_len 0 total) j 0 (omega (arith, length-range_with_len 0 total))
    (eq-eqb _ j at)))

-- all slots together are a list of free ones
pub free_at_first : (total : ℕ) → IsFreeList (range_with_len 0 total) total
free_at_first total = record {
  below = range_below total;
  different = range_differs 0 total;
  whole = omega (arith, length-range_with_len 0 total, ap length (all_free total));
}
