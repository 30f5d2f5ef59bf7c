-- Tests over ranges of numbers and over the places of a screen.
use Rattle.nit_place.proofs.Basics.{IsBefore, IsLeast, find-append, find-map, flat_map, list_all}
use Rattle.nit_place.proofs.Basics.{list_all-append, list_all-map, option_map, option_or}
use Rattle.nit_place.proofs.Basics.{range_with_len}
use Rattle.std.proofs.Common.{Bool, List, None, Option, Some, [], arith, cond, false, find, map}
use Rattle.std.proofs.Common.{refl, suc, true, zero, ℕ, ◌+◌, ◌<◌, ◌∷◌, ◌≡◌, ◌≤◌}

-- ---- all of a range, all of a grid

all_in : (p : ℕ → Bool) (a n : ℕ) → list_all p (range_with_len a n) ≡ true → (i : ℕ) → a ≤ i → i < a + n → p i ≡ true
all_in p a zero h i from to = absurd (omega arith)
all_in p a (suc n) h i from to = grind (arith, all_in p (a + 1) n)

all_of : (p : ℕ → Bool) (a n : ℕ) → ((i : ℕ) → a ≤ i → i < a + n → p i ≡ true) → list_all p (range_with_len a n) ≡ true
all_of p a zero h = refl
all_of p a (suc n) h =
    rw (h a (omega arith) (omega arith)) (all_of p (a + 1) n (λ i from to. h i (omega arith) (omega arith)))

-- the places of a rectangle, row by row
abbrev pub grid : {A : Type 0} → (ℕ → ℕ → A) → ℕ → ℕ → ℕ → ℕ → List A
grid at x y w h = flat_map (λ j. map (λ i. at i j) (range_with_len x w)) (range_with_len y h)

all_rows : {A : Type 0} (p : A → Bool) (at : ℕ → ℕ → A) (x w : ℕ) (ys : List ℕ)
    → list_all p (flat_map (λ j. map (λ i. at i j) (range_with_len x w)) ys)
    ≡ list_all (λ j. list_all (λ i. p (at i j)) (range_with_len x w)) ys
all_rows p at x w [] = refl
all_rows p at x w (y ∷ ys) = rw (list_all-append, list_all-map, all_rows p at x w ys)

pub all_in_grid : {A : Type 0} (p : A → Bool) (at : ℕ → ℕ → A) (x y w h : ℕ) → list_all p (grid at x y w h) ≡ true
    → (i j : ℕ) → x ≤ i → i < x + w → y ≤ j → j < y + h → p (at i j) ≡ true
all_in_grid p at x y w h all i j left right top bottom =
    all_in (λ i. p (at i j)) x w (all_in _ y h (rw (all_rows p at x w (range_with_len y h)) at all) j top bottom) i
    left right

pub all_of_grid : {A : Type 0} (p : A → Bool) (at : ℕ → ℕ → A) (x y w h : ℕ)
    → ((i j : ℕ) → x ≤ i → i < x + w → y ≤ j → j < y + h → p (at i j) ≡ true) → list_all p (grid at x y w h) ≡ true
all_of_grid p at x y w h each =
    rw (all_rows p at x w (range_with_len y h))
    (all_of _ y h (λ j top bottom. all_of _ x w (λ i left right. each i j left right top bottom)))

-- ---- the first of a range

-- the first number of a range at which the test holds
abbrev IsFirst : (ℕ → Bool) → ℕ → ℕ → Option ℕ → Type 0
IsFirst p a n None = (k : ℕ) → a ≤ k → k < a + n → p k ≡ false
IsFirst p a n (Some k) = (a ≤ k) × (k < a + n) × (p k ≡ true) × ((j : ℕ) → a ≤ j → j < k → p j ≡ false)

first_step : (p : ℕ → Bool) (a n : ℕ) (b : Bool) (o : Option ℕ) → p a ≡ b → IsFirst p (a + 1) n o
    → IsFirst p a (suc n) (cond b (Some a) o)
first_step p a n true o e later = (omega arith, omega arith, e, λ j from to. absurd (omega arith))
first_step p a n false None e later = λ k from to. grind (arith, later k)
first_step p a n false (Some k) e (from, to, holds, before) =
    (omega arith, omega arith, holds, λ j low high. grind (arith, before j))

first_in : (p : ℕ → Bool) (a n : ℕ) → IsFirst p a n (find p (range_with_len a n))
first_in p a zero = λ k from to. absurd (omega arith)
first_in p a (suc n) = first_step p a n (p a) _ refl (first_in p (a + 1) n)

-- ---- the least place of a screen

-- the first place at which the test holds, among the rows from a on
abbrev IsFirstPlace : (ℕ × ℕ → Bool) → ℕ → ℕ → ℕ → Option (ℕ × ℕ) → Type 0
IsFirstPlace p width a n None = (x y : ℕ) → x < width → a ≤ y → y < a + n → p (x, y) ≡ false
IsFirstPlace p width a n (Some q) =
    (q.0 < width) × (a ≤ q.1) × (q.1 < a + n) × (p q ≡ true)
    × ((x y : ℕ) → x < width → a ≤ y → IsBefore (x, y) q → p (x, y) ≡ false)

row_step : (p : ℕ × ℕ → Bool) (width a n : ℕ) (row : Option ℕ) (o : Option (ℕ × ℕ))
    → IsFirst (λ x. p (x, a)) 0 width row
    → IsFirstPlace p width (a + 1) n o → IsFirstPlace p width a (suc n) (option_or (option_map (λ x. (x, a)) row) o)
row_step p width a n (Some k) o (from, to, holds, before) later =
    (omega arith, omega arith, omega arith, holds, λ x y within low earlier. grind (arith, before x))
row_step p width a n None None none later = λ x y within low high. grind (arith, none x, later x y)
row_step p width a n None (Some q) none (inside, from, to, holds, before) =
    (inside, omega arith, omega arith, holds, λ x y within low earlier. grind (arith, none x, before x y))

first_place : (p : ℕ × ℕ → Bool) (width a n : ℕ) → IsFirstPlace p width a n (find p (grid (λ x y. (x, y)) 0 a width n))
first_place p width a zero = λ x y within low high. absurd (omega arith)
first_place p width a (suc n) =
    rw (find-append, find-map)
    (row_step p width a n _ _ (first_in (λ x. p (x, a)) 0 width) (first_place p width (a + 1) n))

-- a test that holds only on the screen
pub record IsOnlyWithin (test : ℕ → ℕ → Bool) (width height : ℕ) : Type 0 where
  pub column : (x y : ℕ) → test x y ≡ true → x < width
  pub row : (x y : ℕ) → test x y ≡ true → y < height

least_of : (test : ℕ → ℕ → Bool) (width height : ℕ) (o : Option (ℕ × ℕ)) → IsOnlyWithin test width height
    → IsFirstPlace (λ q. test q.0 q.1) width 0 height o
    → IsLeast test o
least_of test width height None only first = λ x y. grind (arith, only.column x y, only.row x y, first x y)
least_of test width height (Some q) only (inside, from, to, holds, before) =
    (holds, λ x y earlier. grind (arith, only.column x y, before x y))

-- what is found row by row from the top is the least place
pub found_least : (test : ℕ → ℕ → Bool) (width height : ℕ) → IsOnlyWithin test width height
    → IsLeast test (find (λ q. test q.0 q.1) (grid (λ x y. (x, y)) 0 0 width height))
found_least test width height only = least_of test width height _ only (first_place (λ q. test q.0 q.1) width 0 height)

not_before : (test : ℕ → ℕ → Bool) (a b : ℕ × ℕ) → IsLeast test (Some a) → IsLeast test (Some b) → IsBefore a b → ⊥
not_before test a b (holds, least) (holds', least') earlier =
    let no : test a.0 a.1 ≡ false = least' a.0 a.1 earlier in cc

-- there is one least place
pub one_least : (test : ℕ → ℕ → Bool) (o u : Option (ℕ × ℕ)) → IsLeast test o → IsLeast test u → o ≡ u
one_least test None None none none' = refl
one_least test None (Some b) none (holds, least) = let no : test b.0 b.1 ≡ false = none b.0 b.1 in cc
one_least test (Some a) None (holds, least) none = let no : test a.0 a.1 ≡ false = none a.0 a.1 in cc
one_least test (Some a) (Some b) first second =
    grind (arith, not_before test a b first second, not_before test b a second first)
