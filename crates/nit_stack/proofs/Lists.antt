-- Searches, filters and places in lists.
use Rattle.nit_stack.proofs.Basics.{All, All-append, All-cons, All-drop, All-take, Bool, List}
use Rattle.nit_stack.proofs.Basics.{NoPair, None, Option, SlotView, Some, ViewRef, [], add-one, ap}
use Rattle.nit_stack.proofs.Basics.{arith, cond, drop, drop-cons, eqb-true, falls, false, filter}
use Rattle.nit_stack.proofs.Basics.{find, find_at, get_or, get_or-map, get_or_from_slice_get}
use Rattle.nit_stack.proofs.Basics.{has_slot, insert, is_slot, is_some, length, length-map}
use Rattle.nit_stack.proofs.Basics.{list_any, list_any_at, map, moved, nat_le, nat_lt, nat_tests}
use Rattle.nit_stack.proofs.Basics.{not, option_map, place_of, position_or_len, put_above}
use Rattle.nit_stack.proofs.Basics.{put_again, put_back, put_front, put_own_back, put_own_front}
use Rattle.nit_stack.proofs.Basics.{refl, same_slot, slice_get, slice_get-map, slice_get_within}
use Rattle.nit_stack.proofs.Basics.{subst, suc, sym, true, view_ref, without, zero, ◌∙◌}
use Rattle.std.proofs.Common.{ℕ, ◌+◌, ◌<◌, ◌||◌, ◌∷◌, ◌≡◌, ◌≤◌}

pub find-map : {A B : Type 0} (p : B → Bool) (f : A → B) (xs : List A)
    → find p (map f xs) ≡ option_map f (find (λ x. p (f x)) xs)
find-map p f [] = refl
find-map p f (x ∷ xs) = grind (arith, find-map p f xs)

pub list_any-map : {A B : Type 0} (p : B → Bool) (f : A → B) (xs : List A)
    → list_any p (map f xs) ≡ list_any (λ x. p (f x)) xs
list_any-map p f [] = refl
list_any-map p f (x ∷ xs) = ap (λ b. p (f x) || b) (list_any-map p f xs)

pub map-map : {A B C : Type 0} (g : B → C) (f : A → B) (xs : List A) → map g (map f xs) ≡ map (λ x. g (f x)) xs
map-map g f [] = refl
map-map g f (x ∷ xs) = ap (λ l. g (f x) ∷ l) (map-map g f xs)

-- what is found passes
pub found_passes : {A : Type 0} (p : A → Bool) (xs : List A) (a : A) → find p xs ≡ Some a → p a ≡ true
found_passes p [] a h = cc
found_passes p (x ∷ xs) a h = grind (arith, found_passes p xs a)

-- some element passes where one is found
pub any_is_found : {A : Type 0} (p : A → Bool) (xs : List A) → list_any p xs ≡ is_some (find p xs)
any_is_found p [] = refl
any_is_found p (x ∷ xs) = grind (arith, any_is_found p xs)

pub found_some : {A : Type 0} (p : A → Bool) (xs : List A) → list_any p xs ≡ true → (a : A) × (find p xs ≡ Some a)
found_some {A} p xs h = found (find p xs) (sym (any_is_found p xs) ∙ h)
  where
    found : (o : Option A) → is_some o ≡ true → (a : A) × (o ≡ Some a)
    found None e = cc
    found (Some a) e = (a, refl)

-- what fails at each element fails at what is found
pub found_fails : {A : Type 0} (p q : A → Bool) (xs : List A) (a : A) → list_any q xs ≡ false → find p xs ≡ Some a
    → q a ≡ false
found_fails p q [] a n h = cc
found_fails p q (x ∷ xs) a n h = grind (arith, found_fails p q xs a)

-- what passes at something found passes at some element
pub any_found : {A : Type 0} (p q : A → Bool) (xs : List A) (a : A) → find p xs ≡ Some a → q a ≡ true
    → list_any q xs ≡ true
any_found p q [] a h t = cc
any_found p q (x ∷ xs) a h t = grind (arith, any_found p q xs a)

-- a filter keeps nothing that was not there
pub none_kept : {A : Type 0} (p q : A → Bool) (xs : List A) → list_any q xs ≡ false → list_any q (filter p xs) ≡ false
none_kept p q [] h = refl
none_kept p q (x ∷ xs) h = grind (arith, none_kept p q xs)

-- a weaker test fails at each element where a stronger one does
pub none_weaker : {A : Type 0} (p q : A → Bool) → ((x : A) → p x ≡ true → q x ≡ true) → (xs : List A)
    → list_any q xs ≡ false → list_any p xs ≡ false
none_weaker p q w [] h = refl
none_weaker p q w (x ∷ xs) h = grind (arith, w x, none_weaker p q w xs)

-- what is inserted is there beside the others
pub any-insert : {A : Type 0} (p : A → Bool) (xs : List A) (i : ℕ) (v : A)
    → list_any p (insert xs i v) ≡ (p v || list_any p xs)
any-insert p xs zero v = refl
any-insert p [] (suc i) v = refl
any-insert p (x ∷ xs) (suc i) v = grind (arith, any-insert p xs i v)

pub map-insert : {A B : Type 0} (f : A → B) (xs : List A) (i : ℕ) (v : A)
    → map f (insert xs i v) ≡ insert (map f xs) i (f v)
map-insert f xs zero v = refl
map-insert f [] (suc i) v = refl
map-insert f (x ∷ xs) (suc i) v = ap (λ l. f x ∷ l) (map-insert f xs i v)

pub All-insert : {A : Type 0} (P : A → Type 0) (xs : List A) (i : ℕ) (v : A) → P v → All P xs → All P (insert xs i v)
All-insert P xs i v h a = All-append P _ _ (All-take P i xs a) (All-cons P v _ h (All-drop P i xs a))

-- what holds of each element holds of what is found
pub All_found : {A : Type 0} (P : A → Type 0) (p : A → Bool) (xs : List A) (a : A) → All P xs → find p xs ≡ Some a → P a
All_found P p xs a h f =
    let at : slice_get xs (position_or_len p xs) ≡ Some a = sym (find_at p xs) ∙ f in
    subst P (get_or_from_slice_get xs _ a a at) (h _ a (slice_get_within xs _ a at))

pub All-unmap : {A B : Type 0} (P : B → Type 0) (f : A → B) (xs : List A) → All P (map f xs) → All (λ x. P (f x)) xs
All-unmap P f xs h k d l = rw (← get_or-map f xs k d (f d) l) (h k (f d) (omega (arith, length-map xs f)))

-- what others keep stays found where others are taken out
pub find-without : {A : Type 0} (p q : A → Bool) → ((x : A) → p x ≡ true → q x ≡ false) → (xs : List A)
    → find p (filter (λ x. not (q x)) xs) ≡ find p xs
find-without p q apart [] = refl
find-without p q apart (x ∷ xs) = grind (arith, apart x, find-without p q apart xs)

insert_more : {A : Type 0} (x : A) (xs : List A) (n : ℕ) (v : A) → insert (x ∷ xs) (1 + n) v ≡ x ∷ insert xs n v
insert_more x xs n v =
    let e : 1 + n ≡ suc n = omega arith in
    rw e refl

-- the places at which elements are put
pub front_is : {A : Type 0} (layer : A → ℕ) (l : ℕ) (v : A) (xs : List A)
    → put_front layer l v xs ≡ insert xs (position_or_len (λ x. nat_le l (layer x)) xs) v
front_is layer l v [] = refl
front_is layer l v (x ∷ xs) = grind (arith, front_is layer l v xs, insert_more x xs)

pub above_is : {A : Type 0} (is : A → Bool) (v : A) (xs : List A)
    → put_above is v xs ≡ insert xs (position_or_len is xs) v
above_is is v [] = refl
above_is is v (x ∷ xs) = grind (arith, above_is is v xs, insert_more x xs)

-- a list with an element put in somewhere
pub record Put {A : Type 0} (v : A) (xs ys : List A) : Type 0 where
  pub at : ℕ
  pub is : ys ≡ insert xs at v

pub Put-front : {A : Type 0} (layer : A → ℕ) (l : ℕ) (v : A) (xs : List A) → Put v xs (put_front layer l v xs)
Put-front layer l v xs = record { at = position_or_len (λ x. nat_le l (layer x)) xs; is = front_is layer l v xs }

pub Put-above : {A : Type 0} (is : A → Bool) (v : A) (xs : List A) → Put v xs (put_above is v xs)
Put-above is v xs = record { at = position_or_len is xs; is = above_is is v xs }

pub Put-back : {A : Type 0} (layer : A → ℕ) (l : ℕ) (v : A) (xs : List A) → Put v xs (put_back layer l v xs)
Put-back layer l v [] = record { at = 0; is = refl }
Put-back {A} layer l v (x ∷ xs) = whether_any (list_any (λ y. nat_le (layer y) l) (x ∷ xs)) (Put-back layer l v xs)
  where
    whether_any : (b : Bool) → Put v xs (put_back layer l v xs)
        → Put v (x ∷ xs) (cond b (x ∷ put_back layer l v xs) (v ∷ (x ∷ xs)))
    whether_any true r = record { at = suc r.at; is = ap (λ z. x ∷ z) r.is }
    whether_any false r = record { at = 0; is = refl }

-- what is put in is there beside the others
pub any-put : {A : Type 0} (p : A → Bool) (v : A) (xs ys : List A) → Put v xs ys
    → list_any p ys ≡ (p v || list_any p xs)
any-put p v xs ys put = ap (list_any p) put.is ∙ any-insert p xs put.at v

-- where no pair of the list is related, none is among what a filter keeps
pub NoPair-filter : {A : Type 0} (r : A → A → Bool) (p : A → Bool) (xs : List A) → NoPair r xs → NoPair r (filter p xs)
NoPair-filter r p [] h = tt
NoPair-filter r p (x ∷ xs) h = grind (arith, none_kept p (r x) xs, NoPair-filter r p xs)

pub insert_apart : {A : Type 0} (r : A → A → Bool) → ((a b : A) → r a b ≡ r b a) → (xs : List A) (i : ℕ) (v : A)
    → list_any (r v) xs ≡ false → NoPair r xs → NoPair r (insert xs i v)
insert_apart r s xs zero v n h = (n, h)
insert_apart r s [] (suc i) v n h = (refl, tt)
insert_apart r s (x ∷ xs) (suc i) v n h = grind (arith, s x v, any-insert (r x) xs i v, insert_apart r s xs i v)

-- one that is related to none can be put anywhere
pub NoPair-put : {A : Type 0} (r : A → A → Bool) → ((a b : A) → r a b ≡ r b a) → (v : A) (xs ys : List A) → Put v xs ys
    → list_any (r v) xs ≡ false → NoPair r xs → NoPair r ys
NoPair-put r s v xs ys put n h = subst (λ l. NoPair r l) (sym put.is) (insert_apart r s xs put.at v n h)

pub NoPair-map : {A B : Type 0} (r : A → A → Bool) (q : B → B → Bool) (f : A → B) → ((a b : A) → q (f a) (f b) ≡ r a b)
    → (xs : List A) → NoPair r xs → NoPair q (map f xs)
NoPair-map {A = A} r q f same [] h = tt
NoPair-map {A = A} r q f same (x ∷ xs) h = (along xs h.0, NoPair-map r q f same xs h.1)
  where
    along : (ys : List A) → list_any (r x) ys ≡ false → list_any (q (f x)) (map f ys) ≡ false
    along [] n = refl
    along (y ∷ ys) n = grind (arith, same x y, along ys)

-- what was taken out is related to none of the others
pub others_apart : {A : Type 0} (r : A → A → Bool) → ((a b : A) → r a b ≡ r b a) → (is : A → Bool) (xs : List A) (a : A)
    → NoPair r xs → find is xs ≡ Some a → list_any (r a) (without is xs) ≡ false
others_apart r s is [] a h f = refl
others_apart r s is (x ∷ xs) a h f =
    grind (arith, s a x, none_kept (λ y. not (is y)) (r x) xs, found_fails is (r x) xs a, others_apart r s is xs a)

-- layers never fall where an element is put by its layer
none_falls : {A : Type 0} (layer : A → ℕ) (x v : A) (xs : List A) → layer v ≤ layer x
    → list_any (falls layer x) xs ≡ false → list_any (falls layer v) xs ≡ false
none_falls layer x v xs le = none_weaker (falls layer v) (falls layer x) (λ y e. grind (arith, nat_tests)) xs

pub NoPair-front : {A : Type 0} (layer : A → ℕ) (v : A) (xs : List A) → NoPair (falls layer) xs
    → NoPair (falls layer) (put_own_front layer v xs)
NoPair-front layer v [] h = (refl, tt)
NoPair-front layer v (x ∷ xs) h =
    let put = any-put (falls layer x) v xs _ (Put-front layer (layer v) v xs) in
    grind (arith, nat_tests, NoPair-front layer v xs, none_falls layer x v xs, put)

pub NoPair-above : {A : Type 0} (layer : A → ℕ) (is : A → Bool) (v n : A) (xs : List A) → find is xs ≡ Some n
    → layer n ≡ layer v → NoPair (falls layer) xs → NoPair (falls layer) (put_above is v xs)
NoPair-above layer is v n [] f same h = cc
NoPair-above layer is v n (x ∷ xs) f same h =
    let put = any-put (falls layer x) v xs _ (Put-above is v xs) in
    let level = found_fails is (falls layer x) xs n h.0 in
    grind (arith, nat_tests, NoPair-above layer is v n xs, none_falls layer x v xs, put, level)

pub NoPair-back : {A : Type 0} (layer : A → ℕ) (v : A) (xs : List A) → NoPair (falls layer) xs
    → NoPair (falls layer) (put_own_back layer v xs)
NoPair-back {A} layer v [] h = (refl, tt)
NoPair-back {A} layer v (x ∷ xs) h =
    let put = any-put (falls layer x) v xs _ (Put-back layer (layer v) v xs) in
    let low = λ (y : A). nat_le (layer y) (layer v) in
    let before = none_weaker (falls layer v) low (λ y e. grind (arith, nat_tests)) xs in
    let none_low = λ (lt : layer v < layer x). none_weaker low (falls layer x) (λ y e. grind (arith, nat_tests)) xs in
    grind (arith, nat_tests, NoPair-back layer v xs, none_low, before, put)

pub moved_found : {A : Type 0} (is : A → Bool) (put : A → List A → List A) (xs : List A) (a : A) → find is xs ≡ Some a
    → moved is put xs ≡ put a (without is xs)
moved_found is put xs a f = ap (put_again put (without is xs) xs) f

-- the place behind the last one of the layer
pub back_none : {A : Type 0} (layer : A → ℕ) (l : ℕ) (v : A) (xs : List A) → list_any (λ y. nat_le (layer y) l) xs
    ≡ false → insert xs 0 v ≡ put_back layer l v xs
back_none layer l v [] h = refl
back_none layer l v (x ∷ xs) h = grind arith

back_behind : {A : Type 0} (layer : A → ℕ) (l : ℕ) (v : A) (xs : List A) (i : ℕ) (d : A) → i < length xs
    → layer (get_or xs i d) ≤ l → list_any (λ y. nat_le (layer y) l) (drop (suc i) xs) ≡ false
    → insert xs (suc i) v ≡ put_back layer l v xs
back_behind layer l v [] i d in' low h = absurd (omega arith)
back_behind layer l v (x ∷ xs) zero d in' low h = grind (arith, nat_tests, back_none layer l v xs)
back_behind layer l v (x ∷ xs) (suc i) d in' low h =
    let some = list_any_at (λ y. nat_le (layer y) l) xs i d (omega arith) in
    grind (arith, nat_tests, some, back_behind layer l v xs i d)

pub back_at : {A : Type 0} (layer : A → ℕ) (l : ℕ) (v : A) (xs : List A) (i : ℕ) (d : A) → i < length xs
    → layer (get_or xs i d) ≤ l → list_any (λ y. nat_le (layer y) l) (drop (i + 1) xs) ≡ false
    → insert xs (i + 1) v ≡ put_back layer l v xs
back_at layer l v xs i d in' low h = rw add-one (back_behind layer l v xs i d in' low (rw add-one at h))

-- changes commute with a map
pub map-put_front : {A B : Type 0} (f : A → B) (layer : B → ℕ) (l : ℕ) (v : A) (xs : List A)
    → map f (put_front (λ x. layer (f x)) l v xs) ≡ put_front layer l (f v) (map f xs)
map-put_front f layer l v [] = refl
map-put_front f layer l v (x ∷ xs) = grind (arith, map-put_front f layer l v xs)

pub map-put_back : {A B : Type 0} (f : A → B) (layer : B → ℕ) (l : ℕ) (v : A) (xs : List A)
    → map f (put_back (λ x. layer (f x)) l v xs) ≡ put_back layer l (f v) (map f xs)
map-put_back f layer l v [] = refl
map-put_back f layer l v (x ∷ xs) =
    grind (arith, map-put_back f layer l v xs, list_any-map (λ y. nat_le (layer y) l) f xs)

pub map-put_above : {A B : Type 0} (f : A → B) (is : B → Bool) (v : A) (xs : List A)
    → map f (put_above (λ x. is (f x)) v xs) ≡ put_above is (f v) (map f xs)
map-put_above f is v [] = refl
map-put_above f is v (x ∷ xs) = grind (arith, map-put_above f is v xs)

pub map-without : {A B : Type 0} (f : A → B) (is : B → Bool) (xs : List A) → map f (without (λ x. is (f x)) xs)
    ≡ without is (map f xs)
map-without f is [] = refl
map-without f is (x ∷ xs) = grind (arith, map-without f is xs)

-- the view of a slot that is handed out for a place
pub slot_at : (views : List SlotView) (i : ℕ) (v : ViewRef) → slice_get (map view_ref views) i ≡ Some v
    → (s : SlotView) × (slice_get views i ≡ Some s) × (s.slot ≡ v.0)
slot_at views i v at = where_found (slice_get views i) (rw slice_get-map at at)
  where
    where_found : (o : Option SlotView) → option_map view_ref o ≡ Some v
        → (s : SlotView) × (o ≡ Some s) × (s.slot ≡ v.0)
    where_found None e = cc
    where_found (Some s) e = (s, refl, grind arith)

-- the list from a place on
pub drop_at : {A : Type 0} (xs : List A) (i : ℕ) (x : A) → slice_get xs i ≡ Some x → drop i xs ≡ x ∷ drop (i + 1) xs
drop_at xs i x at =
    rw (add-one, drop-cons xs i x (slice_get_within xs i x at), get_or_from_slice_get xs i x x at) refl

-- a view that stands is at its place
pub place_found : (views : List SlotView) (v : ViewRef) → has_slot v.0 views ≡ true
    → slice_get (map view_ref views) (place_of v.0 views) ≡ Some v
place_found views v there =
    let found = found_some (is_slot v.0) views there in
    let own : found.0.slot ≡ v.0 = eqb-true found.0.slot v.0 (found_passes (is_slot v.0) views found.0 found.1) in
    rw (slice_get-map view_ref views (place_of v.0 views), ← find_at (is_slot v.0) views, found.1, own) refl

-- and its place is one of the list's
pub place_within : (k : ℕ) (views : List SlotView) → nat_lt (place_of k views) (length views) ≡ has_slot k views
place_within k [] = refl
place_within k (s ∷ views) = grind (arith, nat_tests, place_within k views)

none_at : (p : SlotView → Bool) (views : List SlotView) (i : ℕ) (s : SlotView) → list_any p views ≡ false
    → slice_get views i ≡ Some s → p s ≡ false
none_at p [] i s none at = cc
none_at p (x ∷ views) zero s none at = grind arith
none_at p (x ∷ views) (suc i) s none at = grind (arith, none_at p views i s)

-- a view stands at one place alone
pub place_is : (views : List SlotView) (i : ℕ) (s : SlotView) → NoPair same_slot views → slice_get views i ≡ Some s
    → place_of s.slot views ≡ i
place_is [] i s apart at = cc
place_is (x ∷ views) zero s apart at = grind (arith, nat_tests)
place_is (x ∷ views) (suc i) s apart at =
    grind (arith, nat_tests, none_at (same_slot x) views i s, place_is views i s)
