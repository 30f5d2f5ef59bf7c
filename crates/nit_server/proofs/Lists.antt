-- What is found first in a list, after a change of those of its elements that a test means. Where no such element
-- is found before or after, the same is found.
use Rattle.nit_server.proofs.Basics.{All-insert, All-map, All-weaker, AllByRecursion, NoPair}
use Rattle.nit_server.proofs.Basics.{changed, found_passes, insert_apart, list_any, moved}
use Rattle.nit_server.proofs.Basics.{nat_tests, none_kept, option_map_or, put_above, put_again}
use Rattle.nit_server.proofs.Basics.{put_back, put_front, without}
use Rattle.std.proofs.Common.{All, Bool, List, None, Option, Some, [], arith, cond, false, find}
use Rattle.std.proofs.Common.{get_or, insert, map, nat_le, not, option_map, refl, set, subst, suc}
use Rattle.std.proofs.Common.{sym, true, zero, ℕ, ◌+◌, ◌∷◌, ◌≡◌, ◌≤◌, ◌⊎◌}

-- what is found is not meant
abbrev pub IsSpared : {A : Type 0} → (A → Bool) → Option A → Type 0
IsSpared is o = option_map_or is o false ≡ false

-- ---- taken out

pub find-spared : {A : Type 0} (is c : A → Bool) (xs : List A) → IsSpared is (find c xs)
    → find c (without is xs) ≡ find c xs
find-spared is c [] h = refl
find-spared is c (x ∷ xs) h = grind (arith, find-spared is c xs)

-- ---- changed in their places

pub find-changed : {A : Type 0} (is c : A → Bool) (change : A → A) → ((x : A) → is (change x) ≡ is x) → (xs : List A)
    → IsSpared is (find c xs) → IsSpared is (find c (changed is change xs)) → find c (changed is change xs) ≡ find c xs
find-changed is c change same [] h k = refl
find-changed is c change same (x ∷ xs) h k = grind (arith, same x, find-changed is c change same xs)

-- a change that the test of the search does not see
pub find-alike : {A : Type 0} (c : A → Bool) (f : A → A) → ((x : A) → c (f x) ≡ c x) → (xs : List A)
    → find c (map f xs) ≡ option_map f (find c xs)
find-alike c f same [] = refl
find-alike c f same (x ∷ xs) = grind (arith, same x, find-alike c f same xs)

-- ---- put in

-- a list with an element put in somewhere
pub record IsPutIn {A : Type 0} (v : A) (xs ys : List A) : Type 0 where
  pub at : ℕ
  pub is : ys ≡ insert xs at v

pub puts_front : {A : Type 0} (layer : A → ℕ) (l : ℕ) (v : A) (xs : List A) → IsPutIn v xs (put_front layer l v xs)
puts_front layer l v [] = record { at = 0; is = refl }
puts_front layer l v (x ∷ xs) =
    let rest = puts_front layer l v xs in
    record { at = cond (nat_le l (layer x)) 0 (suc rest.at); is = grind (arith, rest.is) }

pub puts_above : {A : Type 0} (is : A → Bool) (v : A) (xs : List A) → IsPutIn v xs (put_above is v xs)
puts_above is v [] = record { at = 0; is = refl }
puts_above is v (x ∷ xs) =
    let rest = puts_above is v xs in
    record { at = cond (is x) 0 (suc rest.at); is = grind (arith, rest.is) }

pub puts_back : {A : Type 0} (layer : A → ℕ) (l : ℕ) (v : A) (xs : List A) → IsPutIn v xs (put_back layer l v xs)
puts_back layer l v [] = record { at = 0; is = refl }
puts_back layer l v (x ∷ xs) =
    let rest = puts_back layer l v xs in
    record { at = cond (list_any (λ y. nat_le (layer y) l) (x ∷ xs)) (suc rest.at) 0; is = grind (arith, rest.is) }

find-insert : {A : Type 0} (c : A → Bool) (v : A) (xs : List A) (i : ℕ) → (find c (insert xs i v) ≡ find c xs)
    ⊎ (find c (insert xs i v) ≡ Some v)
find-insert c v xs zero = grind arith
find-insert c v [] (suc i) = grind arith
find-insert c v (x ∷ xs) (suc i) = grind (arith, find-insert c v xs i)

-- the element that was put in is found, or what was found before
pub find-put : {A : Type 0} (c : A → Bool) (v : A) (xs ys : List A) → IsPutIn v xs ys → (find c ys ≡ find c xs)
    ⊎ (find c ys ≡ Some v)
find-put c v xs ys p = subst (λ l. (find c l ≡ find c xs) ⊎ (find c l ≡ Some v)) (sym p.is) (find-insert c v xs p.at)

-- an element that fails the search's own test
pub find-put_failing : {A : Type 0} (c : A → Bool) (v : A) (xs ys : List A) → IsPutIn v xs ys → c v ≡ false
    → find c ys ≡ find c xs
find-put_failing c v xs ys p fails = grind (arith, find-put c v xs ys p, found_passes c ys v)

-- ---- taken out and put in again

pub find-moved : {A : Type 0} (is c : A → Bool) (put : A → List A → List A)
    → ((v : A) (xs : List A) → IsPutIn v xs (put v xs)) → (xs : List A)
    → IsSpared is (find c xs) → IsSpared is (find c (moved is put xs)) → find c (moved is put xs) ≡ find c xs
find-moved {A} is c put puts xs h k = where_found (find is xs) refl k
  where
    where_found : (o : Option A) → find is xs ≡ o → IsSpared is (find c (put_again put (without is xs) xs o))
        → find c (put_again put (without is xs) xs o) ≡ find c xs
    where_found None e k = refl
    where_found (Some v) e k = grind (arith, nat_tests, find-put, find-spared, found_passes)

-- ==== What holds of each element of a list, or of no pair of them, where elements are taken out, changed or put in.

-- ---- tests

-- elements go by a test, or by one that says the same of each
pub without_same : {A : Type 0} (p q : A → Bool) (xs : List A) → AllByRecursion (λ x. p x ≡ q x) xs
    → without p xs ≡ without q xs
without_same p q [] h = refl
without_same p q (x ∷ xs) h = grind (arith, without_same p q xs)

-- ---- no pair

pub NoPair-without : {A : Type 0} (r : A → A → Bool) (is : A → Bool) (xs : List A) → NoPair r xs
    → NoPair r (without is xs)
NoPair-without r is [] h = tt
NoPair-without r is (x ∷ xs) h = grind (arith, none_kept (λ y. not (is y)) (r x) xs, NoPair-without r is xs)

pub NoPair-map : {A : Type 0} (r : A → A → Bool) (f : A → A) → ((a b : A) → r (f a) (f b) ≡ r a b) → (xs : List A)
    → NoPair r xs → NoPair r (map f xs)
NoPair-map r f same [] h = tt
NoPair-map {A = A} r f same (x ∷ xs) h = (along xs h.0, NoPair-map r f same xs h.1)
  where
    along : (ys : List A) → list_any (r x) ys ≡ false → list_any (r (f x)) (map f ys) ≡ false
    along [] n = refl
    along (y ∷ ys) n = grind (arith, same x y, along ys)

-- one that is related to none can be put anywhere
pub NoPair-put : {A : Type 0} (r : A → A → Bool) → ((a b : A) → r a b ≡ r b a) → (v : A) (xs ys : List A)
    → IsPutIn v xs ys → list_any (r v) xs ≡ false → NoPair r xs → NoPair r ys
NoPair-put r both v xs ys p n h = subst (λ l. NoPair r l) (sym p.is) (insert_apart r both xs p.at v n h)

-- ---- each

pub All-put : {A : Type 0} (P : A → Type 0) (v : A) (xs ys : List A) → IsPutIn v xs ys → P v → All P xs → All P ys
All-put P v xs ys p h all = subst (λ l. All P l) (sym p.is) (All-insert P xs p.at v h all)

pub All-changed : {A : Type 0} (P : A → Type 0) (is : A → Bool) (change : A → A) → ((x : A) → P x → P (change x))
    → (xs : List A) → All P xs → All P (changed is change xs)
All-changed {A} P is change keeps xs all =
    All-map P (λ x. cond (is x) (change x) x) xs
    (All-weaker P (λ x. P (cond (is x) (change x) x))
    (λ x h. elim (is x) as (λ b. P (cond b (change x) x)) [ true ↦ keeps x h | false ↦ h ]) xs all)

-- one place of a list grows by one at most
pub adds_at : {A : Type 0} (f : A → ℕ) (xs : List A) (i : ℕ) (y d : A) → f y ≤ f (get_or xs i d) + 1 → (j : ℕ)
    → f (get_or (set xs i y) j d) ≤ f (get_or xs j d) + 1
adds_at f [] i y d h j = omega arith
adds_at f (x ∷ xs) zero y d h zero = h
adds_at f (x ∷ xs) (suc i) y d h (suc j) = adds_at f xs i y d h j
adds_at f (x ∷ xs) i y d h j = omega arith
