-- The views of keys, when keys and records change.
use Rattle.nit_audit.proofs.Basics.{AllByRecursion, AllHaveViews, Bool, Change, Err, HasView}
use Rattle.nit_audit.proofs.Basics.{IfSome, IsSomeAnd, List, None, Ok, OnOk, Option, Result, Slab}
use Rattle.nit_audit.proofs.Basics.{Some, Updates, View, Which, [], above_is, ap, cases_Bool}
use Rattle.nit_audit.proofs.Basics.{changed, changed_if, cond, cond_both, eq-eqb, filter, find}
use Rattle.nit_audit.proofs.Basics.{find-map, front_is, get, has_key, insert, is_meant, is_some}
use Rattle.nit_audit.proofs.Basics.{map-insert, map-map, map-put_above, map-put_back, map-put_front}
use Rattle.nit_audit.proofs.Basics.{map-without, most_sessions, moved, option_map, position_or_len}
use Rattle.nit_audit.proofs.Basics.{put_above, put_back, put_front, swept, taken_if, view_or}
use Rattle.nit_audit.proofs.Basics.{view_under, views_at, with_change, without}
use Rattle.std.proofs.Common.{arith, inl, inr, map, nat_le, refl, suc, sym, true, zero, ℕ, ◌<◌, ◌∷◌}
use Rattle.std.proofs.Common.{◌≡◌}
use Rattle.nit_audit.specs.declared.keys.Change.TheVariants as change

-- ---- what holds of the keys of a list

-- what follows at each key, from what holds there and that it is among the keys
swept_all : (P Q : ℕ → Type 0) (f g : ℕ → View) (ks : List ℕ) → AllByRecursion P ks
    → ((k : ℕ) → P k → has_key ks k ≡ true → (f k ≡ g k) × Q k) → (map f ks ≡ map g ks) × AllByRecursion Q ks
swept_all P Q f g [] all h = (refl, tt)
swept_all P Q f g (k ∷ ks) all h =
    let one = h k all.0 (rw (eq-eqb k k refl) refl) in
    let more = swept_all P Q f g ks all.1 (λ j p m. h j p (rw m (grind arith))) in
    ((λ i. one.0 i ∷ more.0 i), (one.1, more.1))

pub all_filter : (P : ℕ → Type 0) (test : ℕ → Bool) (ks : List ℕ) → AllByRecursion P ks
    → AllByRecursion P (filter test ks)
all_filter P test [] all = tt
all_filter P test (k ∷ ks) all = grind (arith, all_filter P test ks)

pub all_insert : (P : ℕ → Type 0) (ks : List ℕ) (i k : ℕ) → P k → AllByRecursion P ks → AllByRecursion P (insert ks i k)
all_insert P ks zero k p all = (p, all)
all_insert P [] (suc i) k p all = (p, tt)
all_insert P (j ∷ ks) (suc i) k p all = (all.0, all_insert P ks i k p all.1)

pub found_all : (P : ℕ → Type 0) (test : ℕ → Bool) (ks : List ℕ) (k : ℕ) → AllByRecursion P ks → find test ks ≡ Some k
    → P k
found_all P test [] k all is = absurd (cc)
found_all P test (j ∷ ks) k all is =
    cond_both (test j) (Some j) _ (λ o. o ≡ Some k → P k) (λ yes_ e. let same : j ≡ k = cc in rw (← same) all.0)
    (λ no_. found_all P test ks k all.1) is

-- ---- a view that is changed

session_still : (c : Change) (v : View) → (with_change c v).sid ≡ v.sid
session_still (change.Rectangle r) v = refl
session_still (change.Offset ox oy) v = refl
session_still (change.Title t) v = refl

-- a view, changed where it is meant
abbrev pub changed_view : Which → Change → View → View
changed_view w c v = cond (is_meant w v) (with_change c v) v

-- ---- views that are changed

there : (o : Option View) (w : Which) (c : Change) → IsSomeAnd o (λ v. v.sid < most_sessions)
    → (view_or (changed_if w c o) ≡ changed_view w c (view_or o)) × IsSomeAnd (changed_if w c o) (λ v. v.sid < most_sessions)
there None w c h = absurd h
there (Some v) w c h = (
  refl,
  grind (arith, session_still c v),
)

pub changed_all : (w : Which) (c : Change) (keys : List ℕ) (old new : Slab View) → AllHaveViews old keys
    → ((k : ℕ) → get new k ≡ swept (changed_if w c) keys old k)
    → (views_at new keys ≡ changed (is_meant w) (with_change c) (views_at old keys)) × AllHaveViews new keys
changed_all w c keys old new kept h = rw map-map (swept_all (HasView old) (HasView new) (view_under new)
    (λ k. changed_view w c (view_under old k)) keys kept (λ k has m. rw (h k, m) (there (get old k) w c has)))

-- ---- views that are taken out

-- what stands under a key once the views that are meant are out
abbrev Left : Which → Slab View → Slab View → ℕ → Type 0
Left w old new k = get new k ≡ taken_if w (get old k)

-- the keys that have a record
abbrev kept_keys : Slab View → List ℕ → List ℕ
kept_keys new ks = filter (λ k. is_some (get new k)) ks

abbrev LeftViews : Which → Slab View → List ℕ → List View → Type 0
LeftViews w new ks views = (views_at new ks ≡ without (is_meant w) views) × AllHaveViews new ks

-- one more key in front, under which a view stood
left_front : (w : Which) (new : Slab View) (k : ℕ) (o : Option View) (ks : List ℕ) (views : List View)
    → IsSomeAnd o (λ v. v.sid < most_sessions) → get new k ≡ taken_if w o → LeftViews w new ks views
    → LeftViews w new (cond (is_some (get new k)) (k ∷ ks) ks) (view_or o ∷ views)
left_front w new k None ks views has left more = absurd has
left_front w new k (Some v) ks views has left more = elim (cases_Bool (is_meant w v)) [
  | inl is ↦ rw (left, is) more
  | inr is ↦ rw (left, is, left, is) ((λ i. v ∷ more.0 i), (has, more.1))
]

left_views : (w : Which) (old new : Slab View) (ks : List ℕ)
    → AllByRecursion (λ k. HasView old k × Left w old new k) ks
    → LeftViews w new (kept_keys new ks) (views_at old ks)
left_views w old new [] all = (refl, tt)
left_views w old new (k ∷ ks) all = left_front w new k (get old k) (kept_keys new ks) (views_at old ks) all.0.0 all.0.1
    (left_views w old new ks all.1)

pub removed : (w : Which) (keys : List ℕ) (old new : Slab View) → AllHaveViews old keys
    → ((k : ℕ) → get new k ≡ swept (taken_if w) keys old k)
    → LeftViews w new (kept_keys new keys) (views_at old keys)
removed w keys old new kept h = left_views w old new keys (swept_all (HasView old)
    (λ k. HasView old k × Left w old new k) (view_under old) (view_under old) keys kept
    (λ k has m. (refl, (has, rw m at (h k))))).1

-- ---- a new view

position_map : (f : ℕ → View) (test : View → Bool) (ks : List ℕ)
    → position_or_len test (map f ks) ≡ position_or_len (λ k. test (f k)) ks
position_map f test [] = refl
position_map f test (k ∷ ks) = rw (position_map f test ks) refl

pub created_views : (layer : View → ℕ) (l place key : ℕ) (v : View) (keys : List ℕ) (old new : Slab View)
    → AllHaveViews old keys → get old key ≡ None → Updates old new key (Some v)
    → place ≡ position_or_len (λ k. nat_le l (layer (view_under old k))) keys → views_at new (insert keys place key)
    ≡ put_front layer l v (views_at old keys)
created_views layer l place key v keys old new kept vacant up at =
    let same = (swept_all (HasView old) (λ k. Unit {0}) (view_under new) (view_under old) keys kept
    (λ k has m. (ap view_or (up.others k (λ is. rw (is, vacant) at has)), tt))).0 in
    rw (map-insert, same, up.changed, at, ← position_map (view_under old) (λ w. nat_le l (layer w)) keys)
    (sym (front_is layer l v (views_at old keys)))

-- ---- views that move

pub stays : (is : View → Bool) (put : View → List View → List View) (records : Slab View) (keys : List ℕ)
    → find (λ k. is (view_under records k)) keys ≡ None → moved is put (views_at records keys) ≡ views_at records keys
stays is put records keys none = rw (find-map is (view_under records) keys, none) refl

pub moves : (is : View → Bool) (put : View → List View → List View) (records : Slab View) (keys now : List ℕ)
    (key : ℕ) → find (λ k. is (view_under records k)) keys ≡ Some key
    → views_at records now
    ≡ put (view_under records key) (views_at records (without (λ k. is (view_under records k)) keys))
    → views_at records now ≡ moved is put (views_at records keys)
moves is put records keys now key found puts =
    rw (puts, map-without (view_under records) is keys, find-map is (view_under records) keys, found) refl

module _ (records : Slab View) (keys : List ℕ) (key place : ℕ) where
  pub fronted : (layer : View → ℕ) (l : ℕ)
      → place ≡ position_or_len (λ k. nat_le l (layer (view_under records k))) keys
      → views_at records (insert keys place key) ≡ put_front layer l (view_under records key) (views_at records keys)
  fronted layer l at = rw (at, ← front_is (λ k. layer (view_under records k)) l key keys)
      (map-put_front (view_under records) layer l key keys)

  pub backed : (layer : View → ℕ) (l : ℕ)
      → ((v : ℕ) → insert keys place v ≡ put_back (λ k. layer (view_under records k)) l v keys)
      → views_at records (insert keys place key) ≡ put_back layer l (view_under records key) (views_at records keys)
  backed layer l at = rw at (map-put_back (view_under records) layer l key keys)

  pub raised : (next : View → Bool) → place ≡ position_or_len (λ k. next (view_under records k)) keys
      → views_at records (insert keys place key) ≡ put_above next (view_under records key) (views_at records keys)
  raised next at = rw (at, ← above_is (λ k. next (view_under records k)) key keys)
      (map-put_above (view_under records) next key keys)

-- ---- the owner of a pixel

small_at : (o : Option View) → IsSomeAnd o (λ v. v.sid < most_sessions) → (view_or o).sid < most_sessions
small_at None h = absurd h
small_at (Some v) h = h

pub owner_small : (records : Slab View) (keys : List ℕ) (test : ℕ → Bool) (o : Option ℕ) → AllHaveViews records keys
    → find test keys ≡ o → IfSome (option_map (λ k. (view_under records k).sid) o) (λ s. s < most_sessions)
owner_small records keys test None kept found = tt
owner_small records keys test (Some k) kept found =
    small_at (get records k) (found_all (HasView records) test keys k kept found)

-- ---- answers that come only where there is memory

pub on_ok : {A B P Q : Type 0} (r : Result A B) → (P → Q) → OnOk r P → OnOk r Q
on_ok (Ok x) f h = f h
on_ok (Err e) f h = tt
