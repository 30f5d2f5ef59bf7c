-- Lists of pairs of a handle and a slot, along which the handles rise.
use Rattle.std.proofs.Common.{All, Bool, IfSome, IsNone, List, None, Option, Some, [], ap, arith}
use Rattle.std.proofs.Common.{false, filter, get_or, is_some, length, not, option_map, refl, rules}
use Rattle.std.proofs.Common.{slice_get, suc, sym, true, zero, ℕ, ◌++◌, ◌+◌, ◌-◌, ◌<◌, ◌==◌, ◌∙◌}
use Rattle.std.proofs.Common.{◌∷◌, ◌≡◌, ◌≤◌}
use Rattle.nit_slots.proofs.Basics.{IsTable, Rises, cond_both, eq-eqb, has_handle, list_any}
use Rattle.nit_slots.proofs.Basics.{list_any_at, nat_tests, same_Some, slice_get-get_or, slot_of}
use Rattle.nit_slots.proofs.Basics.{without_handle}

-- a new pair with the next handle
pub Rises-push : (low : ℕ) (pairs : List (ℕ × ℕ)) (next slot : ℕ) → Rises low pairs next
    → Rises low (pairs ++ (next, slot) ∷ []) (next + 1)
Rises-push low [] next slot h = (h, omega arith)
Rises-push low (p ∷ pairs) next slot h = (h.0, Rises-push (p.0 + 1) pairs next slot h.1)

-- a lower beginning
Rises-lower : (low from : ℕ) (pairs : List (ℕ × ℕ)) (next : ℕ) → low ≤ from → Rises from pairs next
    → Rises low pairs next
Rises-lower low from [] next l h = omega arith
Rises-lower low from (p ∷ pairs) next l h = (omega (arith, h.0), h.1)

-- some of the pairs
Rises-filter : (test : ℕ × ℕ → Bool) (low : ℕ) (pairs : List (ℕ × ℕ)) (next : ℕ) → Rises low pairs next
    → Rises low (filter test pairs) next
Rises-filter test low [] next h = h
Rises-filter test low (p ∷ pairs) next h =
    let rest = Rises-filter test (p.0 + 1) pairs next h.1 in
    cond_both (test p) (p ∷ filter test pairs) (filter test pairs) (λ l. Rises low l next) (λ _. (h.0, rest))
    (λ _. Rises-lower low (p.0 + 1) (filter test pairs) next (omega (arith, h.0)) rest)

-- a slot is found exactly where the handle is held
slot_held : (pairs : List (ℕ × ℕ)) (h : ℕ) → is_some (slot_of pairs h) ≡ has_handle pairs h
slot_held [] h = refl
slot_held (p ∷ pairs) h = grind (arith, slot_held pairs h)

-- no slot is found exactly where the handle is not held
pub none_held : (pairs : List (ℕ × ℕ)) (h : ℕ) (found : Option ℕ) → found ≡ slot_of pairs h
    → (IsNone found → has_handle pairs h ≡ false) × (has_handle pairs h ≡ false → IsNone found)
none_held pairs h None e = let not_held = rw (← e) at (slot_held pairs h) in (λ _. sym not_held, λ _. search rules)
none_held pairs h (Some x) e = let held = rw (← e) at (slot_held pairs h) in (λ none. cc, λ not_held. cc)

-- a handle whose slot is found is held
pub held_found : (pairs : List (ℕ × ℕ)) (h slot : ℕ) → slot_of pairs h ≡ Some slot → has_handle pairs h ≡ true
held_found pairs h slot e = sym (slot_held pairs h) ∙ ap is_some e

-- a handle below all others stands in no pair
without_below : (low : ℕ) (pairs : List (ℕ × ℕ)) (next h : ℕ) → h < low → Rises low pairs next
    → without_handle pairs h ≡ pairs
without_below low [] next h l r = refl
without_below low (p ∷ pairs) next h l r = grind (arith, nat_tests, without_below (p.0 + 1) pairs next h)

-- a handle that is held stands in one pair
pub length-without_handle : (low : ℕ) (pairs : List (ℕ × ℕ)) (next h : ℕ) → Rises low pairs next
    → has_handle pairs h ≡ true → length (without_handle pairs h) + 1 ≡ length pairs
length-without_handle low [] next h r held = cc
length-without_handle low (p ∷ pairs) next h r held =
    let rest = length-without_handle (p.0 + 1) pairs next h r.1 in
    grind (arith, nat_tests, without_below (p.0 + 1) pairs next h)

-- the next handle is not below the first
Rises-next : (low : ℕ) (pairs : List (ℕ × ℕ)) (next : ℕ) → Rises low pairs next → low ≤ next
Rises-next low [] next r = r
Rises-next low (p ∷ pairs) next r = omega (arith, r.0, Rises-next (p.0 + 1) pairs next r.1)

-- the next handle is not held
pub next_not_held : (low : ℕ) (pairs : List (ℕ × ℕ)) (next : ℕ) → Rises low pairs next → has_handle pairs next ≡ false
next_not_held low [] next r = refl
next_not_held low (p ∷ pairs) next r =
    let below = Rises-next (p.0 + 1) pairs next r.1 in
    grind (arith, nat_tests, next_not_held (p.0 + 1) pairs next r.1)

-- the table without one of its handles
pub IsTable-without : (pairs : List (ℕ × ℕ)) (next most h : ℕ)
    → IsTable (record { pairs = pairs; next = next; most = most }) → has_handle pairs h ≡ true
    → IsTable (record { pairs = without_handle pairs h; next = next; most = most })
IsTable-without pairs next most h t held = record {
  rising = Rises-filter (λ p. not (p.0 == h)) 1 pairs next t.rising;
  counted = omega (arith, t.counted, length-without_handle 1 pairs next h t.rising held);
}

-- no handle is below the first
Rises-from : (low : ℕ) (pairs : List (ℕ × ℕ)) (next k : ℕ) (d : ℕ × ℕ) → Rises low pairs next → k < length pairs
    → low ≤ (get_or pairs k d).0
Rises-from low [] next k d h l = absurd (omega arith)
Rises-from low (p ∷ pairs) next zero d h l = h.0
Rises-from low (p ∷ pairs) next (suc k) d h l =
    omega (arith, h.0, Rises-from (p.0 + 1) pairs next k d h.1 (omega arith))

-- a later pair has no smaller handle
Rises-le : (low : ℕ) (pairs : List (ℕ × ℕ)) (next j k : ℕ) (d e : ℕ × ℕ) → Rises low pairs next → j ≤ k
    → k < length pairs → (get_or pairs j e).0 ≤ (get_or pairs k d).0
Rises-le low [] next j k d e h m l = absurd (omega arith)
Rises-le low (p ∷ pairs) next zero zero d e h m l = omega arith
Rises-le low (p ∷ pairs) next zero (suc k) d e h m l =
    omega (arith, Rises-from (p.0 + 1) pairs next k d h.1 (omega arith))
Rises-le low (p ∷ pairs) next (suc j) zero d e h m l = absurd (omega arith)
Rises-le low (p ∷ pairs) next (suc j) (suc k) d e h m l =
    Rises-le (p.0 + 1) pairs next j k d e h.1 (omega arith) (omega arith)

-- the handle of the last pair
abbrev pub last_handle : List (ℕ × ℕ) → Option ℕ
last_handle pairs = option_map (λ p. p.0) (slice_get pairs (length pairs - 1))

-- where the last handle stands
last_at : (pairs : List (ℕ × ℕ)) (h : ℕ) → last_handle pairs ≡ Some h → (length pairs - 1 < length pairs)
    × ((get_or pairs (length pairs - 1) (0, 0)).0 ≡ h)
last_at [] h e = cc
last_at (p ∷ rest) h e =
    let pairs : List (ℕ × ℕ) = p ∷ rest in
    let within : length pairs - 1 < length pairs = omega arith in (
      within,
      same_Some (get_or pairs (length pairs - 1) (0, 0)).0 h
          (sym (ap (option_map (λ (q : ℕ × ℕ). q.0)) (slice_get-get_or pairs (length pairs - 1) (0, 0) within)) ∙ e),
    )

-- the last handle is held
pub last_held : (pairs : List (ℕ × ℕ)) (found : Option ℕ) → found ≡ last_handle pairs
    → IfSome found (λ h. list_any (λ p. p.0 == h) pairs ≡ true)
last_held pairs None e = tt
last_held pairs (Some h) e =
    let at = last_at pairs h (sym e) in
    list_any_at (λ p. p.0 == h) pairs (length pairs - 1) (0, 0) at.0 (eq-eqb _ h at.1)

-- and no handle is greater
pub last_greatest : (low : ℕ) (pairs : List (ℕ × ℕ)) (next : ℕ) (found : Option ℕ) → Rises low pairs next
    → found ≡ last_handle pairs → IfSome found (λ h. All (λ p. p.0 ≤ h) pairs)
last_greatest low pairs next None r e = tt
last_greatest low pairs next (Some h) r e =
    let at = last_at pairs h (sym e) in
    λ k d l. omega (arith, at.1, Rises-le low pairs next k (length pairs - 1) (0, 0) d r (omega (arith, at.0)) at.0)
