-- Changes by slot are changes by session and handle.
use Rattle.nit_stack.proofs.Basics.{AllByRecursion, Bool, IsNamedBy, List, MeanSame, NoPair, None}
use Rattle.nit_stack.proofs.Basics.{Point, SlotView, Some, View, [], and_parts, ap, arith, changed}
use Rattle.nit_stack.proofs.Basics.{cond, cond_both, covers, eqb-true, false, filter, find}
use Rattle.nit_stack.proofs.Basics.{has_slot, insert, is_named, is_of_session, is_session, is_slot}
use Rattle.nit_stack.proofs.Basics.{is_some, is_view, layer_of_slot_view, list_any, moved}
use Rattle.nit_stack.proofs.Basics.{moved_above, name_in, name_of, nat_tests, not, on_view}
use Rattle.nit_stack.proofs.Basics.{option_map, option_map_or, owner, owner_in, put_above, put_back}
use Rattle.nit_stack.proofs.Basics.{put_front, put_own_back, put_own_front, refl, same_name}
use Rattle.nit_stack.proofs.Basics.{same_slot, slot_view_in, suc, true, view_above, view_layer}
use Rattle.nit_stack.proofs.Basics.{views_of, without, zero}
use Rattle.std.proofs.Common.{ℕ, ◌&&◌, ◌==◌, ◌||◌, ◌∷◌, ◌≡◌}
use Rattle.nit_stack.proofs.Lists.{Put, Put-above, Put-back, Put-front, any-put, any_is_found}
use Rattle.nit_stack.proofs.Lists.{find-map, find-without, found_fails, found_passes, found_some}
use Rattle.nit_stack.proofs.Lists.{map-put_above, map-put_back, map-put_front, map-without}
use Rattle.nit_stack.proofs.Lists.{moved_found}
use Rattle.nit_stack.proofs.SlotsAndViews.{found_in_slot, owner_of_views}

abbrev pub Agree : (SlotView → Bool) → (SlotView → Bool) → List SlotView → Type 0
Agree p q xs = AllByRecursion (λ x. p x ≡ q x) xs

none_agree : (p q : SlotView → Bool) (xs : List SlotView) → list_any p xs ≡ false → list_any q xs ≡ false → Agree p q xs
none_agree p q [] m n = tt
none_agree p q (x ∷ xs) m n = grind (arith, none_agree p q xs)

-- the slot of a view and its name mean one view
agree : (k : ℕ) (xs : List SlotView) (a : SlotView) → NoPair same_slot xs → NoPair same_name xs
    → slot_view_in k xs ≡ Some a → Agree (is_slot k) (is_named a.view.sid a.view.handle) xs
agree k [] a s n f = tt
agree k (x ∷ xs) a s n f =
    let here = λ (e : is_slot k x ≡ true) (same : x ≡ a). rw same at
    (none_agree (is_slot k) (same_name x) xs (rw (eqb-true x.slot k e) at s.0) n.0) in
    grind (arith, nat_tests, here, found_fails (is_slot k) (same_name x) xs a n.0, agree k xs a s.1 n.1)

filter_agrees : (p q : SlotView → Bool) (xs : List SlotView) → Agree p q xs → without p xs ≡ without q xs
filter_agrees p q [] h = refl
filter_agrees p q (x ∷ xs) h = grind (arith, filter_agrees p q xs)

find_agrees : (p q : SlotView → Bool) (xs : List SlotView) → Agree p q xs → find p xs ≡ find q xs
find_agrees p q [] h = refl
find_agrees p q (x ∷ xs) h = grind (arith, find_agrees p q xs)

above_agrees : (p q : SlotView → Bool) (v : SlotView) (xs : List SlotView) → Agree p q xs
    → put_above p v xs ≡ put_above q v xs
above_agrees p q v [] h = refl
above_agrees p q v (x ∷ xs) h = grind (arith, above_agrees p q v xs)

changed_agrees : (p q : SlotView → Bool) (change : SlotView → SlotView) (xs : List SlotView) → Agree p q xs
    → changed p change xs ≡ changed q change xs
changed_agrees p q change [] h = refl
changed_agrees p q change (x ∷ xs) h = grind (arith, changed_agrees p q change xs)

Agree-filter : (p q r : SlotView → Bool) (xs : List SlotView) → Agree p q xs → Agree p q (filter r xs)
Agree-filter p q r [] h = tt
Agree-filter p q r (x ∷ xs) h = grind (arith, Agree-filter p q r xs)

-- the view of a slot, with its name
named_seat : (k sid handle : ℕ) (seats : List SlotView) → IsNamedBy k sid handle seats
    → (a : SlotView) × (slot_view_in k seats ≡ Some a) × (a.view.sid ≡ sid) × (a.view.handle ≡ handle)
named_seat k sid handle seats h =
    let a = found_some (is_slot k) seats (grind (arith, any_is_found (is_slot k) seats, h.name)) in
    let name = rw a.1 at h.name in
    (a.0, a.1, grind (arith, name), grind (arith, name))

-- a slot and its name mean one view
pub agree_by : (k sid handle : ℕ) (seats : List SlotView) → IsNamedBy k sid handle seats
    → Agree (is_slot k) (is_named sid handle) seats
agree_by k sid handle seats h =
    let a = named_seat k sid handle seats h in
    rw (a.2, a.3) at (agree k seats a.0 h.slots h.names a.1)

-- without the view of a slot
pub views_without : (k sid handle : ℕ) (seats : List SlotView) → IsNamedBy k sid handle seats
    → views_of (without (is_slot k) seats) ≡ without (is_view sid handle) (views_of seats)
views_without k sid handle seats h =
    rw (filter_agrees (is_slot k) (is_named sid handle) seats (agree_by k sid handle seats h))
    (map-without (λ (s : SlotView). s.view) (is_view sid handle) seats)

changed_views : (is : View → Bool) (change : View → View) (seats : List SlotView)
    → views_of (changed (λ s. is s.view) (on_view change) seats) ≡ changed is change (views_of seats)
changed_views is change [] = refl
changed_views is change (x ∷ seats) = grind (arith, changed_views is change seats)

-- a change of the view of a slot
pub views_changed : (k sid handle : ℕ) (change : View → View) (seats : List SlotView) → IsNamedBy k sid handle seats
    → views_of (changed (is_slot k) (on_view change) seats) ≡ changed (is_view sid handle) change (views_of seats)
views_changed k sid handle change seats h =
    rw (changed_agrees (is_slot k) (is_named sid handle) (on_view change) seats (agree_by k sid handle seats h))
    (changed_views (is_view sid handle) change seats)

-- the view of a slot taken out and put in again
pub moved_to : (k sid handle : ℕ) (put : SlotView → List SlotView → List SlotView)
    (put_view : View → List View → List View) (seats : List SlotView) → IsNamedBy k sid handle seats
    → ((a : SlotView) → a.view.sid ≡ sid → views_of (put a (without (is_slot k) seats))
    ≡ put_view a.view (views_of (without (is_slot k) seats)))
    → views_of (moved (is_slot k) put seats) ≡ moved (is_view sid handle) put_view (views_of seats)
moved_to k sid handle put put_view seats h along =
    let a = named_seat k sid handle seats h in
    let same = find_agrees (is_slot k) (is_named sid handle) seats (agree_by k sid handle seats h) in
    let found : find (is_view sid handle) (views_of seats) ≡ Some a.0.view =
    rw (find-map (is_view sid handle) (λ (s : SlotView). s.view) seats, ← same, a.1) refl in
    let again = moved_found (is_view sid handle) put_view (views_of seats) a.0.view found in
    rw (moved_found (is_slot k) put seats a.0 a.1, along a.0 a.2, views_without k sid handle seats h, again) refl

pub views_put_front : (layer : ℕ → ℕ) (l : ℕ) (s : SlotView) (seats : List SlotView)
    → views_of (put_front (layer_of_slot_view layer) l s seats) ≡ put_front (view_layer layer) l s.view (views_of seats)
views_put_front layer l s seats = map-put_front (λ (s : SlotView). s.view) (view_layer layer) l s seats

pub views_fronted : (k sid handle : ℕ) (layer : ℕ → ℕ) (seats : List SlotView) → IsNamedBy k sid handle seats
    → views_of (moved (is_slot k) (put_own_front (layer_of_slot_view layer)) seats)
    ≡ moved (is_view sid handle) (put_front (view_layer layer) (layer sid)) (views_of seats)
views_fronted k sid handle layer seats h =
    moved_to k sid handle (put_own_front (layer_of_slot_view layer)) (put_front (view_layer layer) (layer sid)) seats h
    (λ a e. rw (← e) (views_put_front layer (layer a.view.sid) a (without (is_slot k) seats)))

pub views_backed : (k sid handle : ℕ) (layer : ℕ → ℕ) (seats : List SlotView) → IsNamedBy k sid handle seats
    → views_of (moved (is_slot k) (put_own_back (layer_of_slot_view layer)) seats)
    ≡ moved (is_view sid handle) (put_back (view_layer layer) (layer sid)) (views_of seats)
views_backed k sid handle layer seats h =
    moved_to k sid handle (put_own_back (layer_of_slot_view layer)) (put_back (view_layer layer) (layer sid)) seats h
    (λ a e. rw (← e) (map-put_back (λ s. s.view) (view_layer layer) (layer a.view.sid) a (without (is_slot k) seats)))

-- what is found passes both tests or neither
found_alike : (p r q : SlotView → Bool) (xs : List SlotView) → Agree p r xs → option_map_or p (find q xs) false
    ≡ option_map_or r (find q xs) false
found_alike p r q [] h = refl
found_alike p r q (x ∷ xs) h = grind (arith, found_alike p r q xs)

-- one name, one slot
same_names : (k n sid handle next : ℕ) (seats : List SlotView) → IsNamedBy k sid handle seats
    → IsNamedBy n sid next seats → (k == n) ≡ (handle == next)
same_names k n sid handle next seats h g =
    let b = named_seat n sid next seats g in
    let alike = rw b.1 at
    (found_alike (is_slot k) (is_named sid handle) (is_slot n) seats (agree_by k sid handle seats h)) in
    let slot = found_passes (is_slot n) seats b.0 b.1 in
    grind (arith, nat_tests, alike, slot, b.2, b.3)

pub views_above : (k n sid handle next : ℕ) (seats : List SlotView) → IsNamedBy k sid handle seats
    → IsNamedBy n sid next seats → views_of (moved_above k n seats) ≡ view_above sid handle next (views_of seats)
views_above k n sid handle next seats h g =
    let others = without (is_slot k) seats in
    let alike = Agree-filter (is_slot n) (is_named sid next) (λ x. not (is_slot k x)) seats
    (agree_by n sid next seats g) in
    let along = moved_to k sid handle (put_above (is_slot n)) (put_above (is_view sid next)) seats h
    (λ a e. rw (above_agrees (is_slot n) (is_named sid next) a others alike)
    (map-put_above (λ (s : SlotView). s.view) (is_view sid next) a others)) in
    grind (arith, same_names k n sid handle next seats h g, along)

-- all views of a session, and those of a name
pub views_closed : (sid : ℕ) (seats : List SlotView) → views_of (without (is_of_session sid) seats)
    ≡ without (is_session sid) (views_of seats)
views_closed sid seats = map-without (λ (s : SlotView). s.view) (is_session sid) seats

-- what is put in is found where it is meant, if no other is
find-insert : {A : Type 0} (p : A → Bool) (xs : List A) (i : ℕ) (v : A) → (p v ≡ true → list_any p xs ≡ false)
    → find p (insert xs i v) ≡ cond (p v) (Some v) (find p xs)
find-insert p xs zero v alone = refl
find-insert p [] (suc i) v alone = refl
find-insert p (x ∷ xs) (suc i) v alone = grind (arith, find-insert p xs i v)

-- what is taken out is not found
find-gone : {A : Type 0} (p : A → Bool) (xs : List A) → find p (filter (λ x. not (p x)) xs) ≡ None
find-gone p [] = refl
find-gone p (x ∷ xs) = grind (arith, find-gone p xs)

-- the view in a slot where one is put in, and where one is taken out
pub seat_in-put : (s : SlotView) (j : ℕ) (xs ys : List SlotView) → Put s xs ys → has_slot s.slot xs ≡ false
    → slot_view_in j ys ≡ cond (s.slot == j) (Some s) (slot_view_in j xs)
seat_in-put s j xs ys put free =
    rw put.is (find-insert (is_slot j) xs put.at s (λ here. rw (← eqb-true s.slot j here) free))

pub seat_in-without : (j k : ℕ) (seats : List SlotView) → slot_view_in j (without (is_slot k) seats)
    ≡ cond (j == k) None (slot_view_in j seats)
seat_in-without j k seats =
    cond_both (j == k) None _ (λ o. slot_view_in j (without (is_slot k) seats) ≡ o)
    (λ e. rw (← eqb-true j k e) (find-gone (is_slot j) seats))
    (λ e. find-without (is_slot j) (is_slot k) (λ x at. grind (arith, nat_tests)) seats)

pub has-put_front : (layer : SlotView → ℕ) (l : ℕ) (s : SlotView) (j : ℕ) (seats : List SlotView)
    → has_slot j (put_front layer l s seats) ≡ (is_slot j s || has_slot j seats)
has-put_front layer l s j seats = any-put (is_slot j) s seats (put_front layer l s seats) (Put-front layer l s seats)

pub has-without : (j k : ℕ) (seats : List SlotView) → has_slot j (without (is_slot k) seats)
    ≡ (not (j == k) && has_slot j seats)
has-without j k seats = grind (arith, any_is_found, seat_in-without j k seats)

pub has-changed : (j k : ℕ) (change : View → View) (seats : List SlotView)
    → has_slot j (changed (is_slot k) (on_view change) seats) ≡ has_slot j seats
has-changed j k change [] = refl
has-changed j k change (x ∷ seats) = grind (arith, has-changed j k change seats)

pub seat_in-moved : (j k : ℕ) (put : SlotView → List SlotView → List SlotView) (seats : List SlotView)
    → has_slot k seats ≡ true → ((s : SlotView) (xs : List SlotView) → Put s xs (put s xs))
    → slot_view_in j (moved (is_slot k) put seats) ≡ slot_view_in j seats
seat_in-moved j k put seats there where' =
    let f = found_some (is_slot k) seats there in
    let others = without (is_slot k) seats in
    let own = found_passes (is_slot k) seats f.0 f.1 in
    let again = ap (slot_view_in j) (moved_found (is_slot k) put seats f.0 f.1) in
    let seat = seat_in-put f.0 j others _ (where' f.0 others) in
    grind (arith, nat_tests, again, seat, has-without f.0.slot k seats, seat_in-without j k seats, own, f.1)

pub has-moved : (j k : ℕ) (put : SlotView → List SlotView → List SlotView) (seats : List SlotView)
    → has_slot k seats ≡ true → ((s : SlotView) (xs : List SlotView) → Put s xs (put s xs))
    → has_slot j (moved (is_slot k) put seats) ≡ has_slot j seats
has-moved j k put seats there where' = grind (arith, any_is_found, seat_in-moved j k put seats there where')

pub has-above : (j k n : ℕ) (seats : List SlotView) → has_slot k seats ≡ true → has_slot j (moved_above k n seats)
    ≡ has_slot j seats
has-above j k n seats there =
    cond_both (k == n) seats _ (λ xs. has_slot j xs ≡ has_slot j seats) (λ e. refl)
    (λ e. has-moved j k (put_above (is_slot n)) seats there (Put-above (is_slot n)))

-- taking out the views of a session one by one
absorbed : (p q r : SlotView → Bool) (xs : List SlotView) → AllByRecursion (λ x. p x ≡ r x) xs
    → ((x : SlotView) → r x ≡ true → q x ≡ true) → without q (without p xs) ≡ without q xs
absorbed p q r [] h w = refl
absorbed p q r (x ∷ xs) h w = grind (arith, w x, absorbed p q r xs)

pub without_one : (k sid handle : ℕ) (seats : List SlotView) → IsNamedBy k sid handle seats
    → without (is_of_session sid) (without (is_slot k) seats) ≡ without (is_of_session sid) seats
without_one k sid handle seats h =
    absorbed (is_slot k) (is_of_session sid) (is_named sid handle) seats (agree_by k sid handle seats h)
    (λ x named. grind arith)

pub without_none : (sid : ℕ) (seats : List SlotView) → list_any (is_of_session sid) seats ≡ false
    → without (is_of_session sid) seats ≡ seats
without_none sid [] h = refl
without_none sid (x ∷ seats) h = grind (arith, without_none sid seats)

-- a slot has a view where its view has a name
pub has-name : (j : ℕ) (seats : List SlotView) → has_slot j seats ≡ is_some (name_in j seats)
has-name j seats = grind (arith, any_is_found (is_slot j) seats)

-- the name of the view in a slot
pub name-put_front : (layer : SlotView → ℕ) (l : ℕ) (s : SlotView) (j : ℕ) (seats : List SlotView)
    → has_slot s.slot seats ≡ false → name_in j (put_front layer l s seats)
    ≡ cond (s.slot == j) (Some (name_of s)) (name_in j seats)
name-put_front layer l s j seats free =
    grind (arith, seat_in-put s j seats _ (Put-front layer l s seats) free)

pub name-without : (j k : ℕ) (seats : List SlotView) → name_in j (without (is_slot k) seats)
    ≡ cond (j == k) None (name_in j seats)
name-without j k seats = grind (arith, seat_in-without j k seats)

pub name-changed : (j k : ℕ) (change : View → View) (seats : List SlotView)
    → ((v : View) → ((change v).sid ≡ v.sid) × ((change v).handle ≡ v.handle))
    → name_in j (changed (is_slot k) (on_view change) seats) ≡ name_in j seats
name-changed j k change [] keeps = refl
name-changed j k change (x ∷ seats) keeps = grind (arith, keeps x.view, name-changed j k change seats keeps)

pub name-front : (j k : ℕ) (layer : SlotView → ℕ) (seats : List SlotView) → has_slot k seats ≡ true
    → name_in j (moved (is_slot k) (put_own_front layer) seats) ≡ name_in j seats
name-front j k layer seats there =
    ap (option_map name_of) (seat_in-moved j k (put_own_front layer) seats there
    (λ s xs. Put-front layer (layer s) s xs))

pub name-back : (j k : ℕ) (layer : SlotView → ℕ) (seats : List SlotView) → has_slot k seats ≡ true
    → name_in j (moved (is_slot k) (put_own_back layer) seats) ≡ name_in j seats
name-back j k layer seats there =
    ap (option_map name_of) (seat_in-moved j k (put_own_back layer) seats there (λ s xs. Put-back layer (layer s) s xs))

pub name-above : (j k n : ℕ) (seats : List SlotView) → has_slot k seats ≡ true → name_in j (moved_above k n seats)
    ≡ name_in j seats
name-above j k n seats there =
    cond_both (k == n) seats _ (λ xs. name_in j xs ≡ name_in j seats) (λ e. refl)
    (λ e. ap (option_map name_of) (seat_in-moved j k (put_above (is_slot n)) seats there (Put-above (is_slot n))))

-- a name that a slot has is that of a view, and a view's name is that of its slot
pub name_is_there : (j sid h : ℕ) (seats : List SlotView) → name_in j seats ≡ Some (sid, h)
    → list_any (is_named sid h) seats ≡ true
name_is_there j sid h [] named = cc
name_is_there j sid h (x ∷ seats) named = grind (arith, nat_tests, name_is_there j sid h seats)

pub name_has_slot : (sid h : ℕ) (seats : List SlotView) → NoPair same_slot seats
    → list_any (is_named sid h) seats ≡ true → (j : ℕ) × (name_in j seats ≡ Some (sid, h))
name_has_slot sid h seats apart there =
    let f = found_some (is_named sid h) seats there in
    let named = found_passes (is_named sid h) seats f.0 f.1 in
    let parts = and_parts (f.0.view.sid == sid) (f.0.view.handle == h) named in (
      f.0.slot,
      rw (found_in_slot (is_named sid h) seats f.0 apart f.1, eqb-true _ _ parts.0, eqb-true _ _ parts.1) refl,
    )

-- a test of the view alone
on_views : (p : View → Bool) (rows : ℕ) (seats : List SlotView) (x : Point)
    → option_map_or (λ (s : SlotView). p s.view) (owner_in (λ s. s.view) rows seats x) false
    ≡ option_map_or p (owner rows (views_of seats) x) false
on_views p rows seats x = grind (arith, owner_of_views rows seats x)

pub owner_named : (k sid handle rows : ℕ) (seats : List SlotView) (p : Point) → MeanSame k sid handle seats
    → option_map_or (is_slot k) (owner_in (λ s. s.view) rows seats p) false
    ≡ option_map_or (is_view sid handle) (owner rows (views_of seats) p) false
owner_named k sid handle rows seats p h =
    let alike = found_alike (is_slot k) (is_named sid handle) (λ (s : SlotView). covers s.view.rect p) seats h in
    grind (arith, alike, on_views (is_view sid handle) rows seats p)

pub owner_of_session : (sid rows : ℕ) (seats : List SlotView) (p : Point)
    → option_map_or (is_of_session sid) (owner_in (λ s. s.view) rows seats p) false
    ≡ option_map_or (is_session sid) (owner rows (views_of seats) p) false
owner_of_session sid rows seats p = on_views (is_session sid) rows seats p
