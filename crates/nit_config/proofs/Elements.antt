-- Tests over lists: the elements of an array of `toml`, the members of a map, and the rows of keys.
use Rattle.std.proofs.Common.{Bool, Global, List, String, [], add-one, ap, drop, drop-cons, get_or}
use Rattle.std.proofs.Common.{is_some, length, map, not, refl, string_bytes, take, ℕ, ◌&&◌, ◌++◌}
use Rattle.std.proofs.Common.{◌+◌, ◌-◌, ◌<◌, ◌||◌, ◌∷◌, ◌≡◌}
use Rattle.nit_config.proofs.Basics.{AllZip, Data, HoldsClient, KeyRow, Member, Members, TableKey}
use Rattle.nit_config.proofs.Basics.{Value, as_table, bytes_eq, is_known_key, items_view, keys_of}
use Rattle.nit_config.proofs.Basics.{label_of_table, list_all, list_any, list_of, map_more}
use Rattle.nit_config.proofs.Basics.{members_of, members_view, row_of, rows_of, stands_twice}
use Rattle.nit_config.proofs.Basics.{take_rest, view}
use Rattle.nit_config.specs.Keys.{has_unknown_key}

pub list_of_items : (vs : List Value) → list_of (items_view vs) ≡ map view vs
list_of_items [] = refl
list_of_items (v ∷ vs) = ap (λ ds. view v ∷ ds) (list_of_items vs)

pub all_tables : (vs : List Value) → list_all (λ e. is_some (as_table e)) (list_of (items_view vs))
    ≡ list_all (λ v. is_some (as_table (view v))) vs
all_tables [] = refl
all_tables (v ∷ vs) = ap (λ b. is_some (as_table (view v)) && b) (all_tables vs)

module _ {A B : Type 0} (f : A → B) where
  -- a test of what a function gives, over the list that it gives
  pub list_any-map : (p : B → Bool) (xs : List A) → list_any (λ x. p (f x)) xs ≡ list_any p (map f xs)
  list_any-map p [] = refl
  list_any-map p (x ∷ xs) = ap (λ b. p (f x) || b) (list_any-map p xs)

  map-map : {C : Type 0} (g : B → C) (xs : List A) → map (λ x. g (f x)) xs ≡ map g (map f xs)
  map-map g [] = refl
  map-map g (x ∷ xs) = ap (λ ys. g (f x) ∷ ys) (map-map g xs)

-- a test of each key of the code as one of each row, and one of each key of a map as one of each member
pub on_rows : (p : KeyRow → Bool) (keys : List TableKey) (rows : List KeyRow) → rows_of keys ≡ rows
    → list_any (λ k. p (row_of k)) keys ≡ list_any p rows
on_rows p keys rows same = rw (← same) (list_any-map row_of p keys)

pub on_members : (rows : List KeyRow) (es : List (String Global × Value))
    → list_any (λ k. not (is_known_key rows (string_bytes k))) (keys_of es) ≡ has_unknown_key rows (members_view es)
unfolding has_unknown_key
on_members rows [] = refl
on_members rows (e ∷ es) = ap (λ b. not (is_known_key rows (string_bytes e.0)) || b) (on_members rows es)

module _ (vs : List Value) (ds : List Data) (same : map view vs ≡ ds) where
  pub members_of_values : map (λ v. members_of (view v)) vs ≡ map members_of ds
  members_of_values = rw (← same) (map-map view members_of vs)

  -- a test of each value's members
  pub on_clients : (p : Members → Bool) → list_any (λ v. p (members_of (view v))) vs ≡ list_any p (map members_of ds)
  on_clients p = rw (← members_of_values) (list_any-map (λ v. members_of (view v)) p vs)

  -- the labels of the values
  pub labels_of : map (λ v. label_of_table (members_of (view v))) vs ≡ map label_of_table (map members_of ds)
  labels_of = rw (← members_of_values) (map-map (λ v. members_of (view v)) label_of_table vs)

-- one more text is compared with those behind it, with the item and the answer by name
pub twice_compared : {A : Type 0} (f : A → List ℕ) (xs : List A) (i : ℕ) (v : A) (b : Bool) → i < length xs
    → v ≡ get_or xs i v
    → b ≡ list_any (λ w. bytes_eq (f v) (f w)) (take (length xs - (i + 1)) (drop (i + 1) xs))
    → stands_twice (map f (drop i xs)) ≡ (b || stands_twice (map f (drop (i + 1) xs)))
twice_compared f xs i v b h at answer =
    rw (answer, take_rest xs (i + 1), list_any-map f (bytes_eq (f v)), add-one, drop-cons xs i v, ← at)

-- the members of a configuration, one by one
held_push : (ts : List Members) (ms : List Member) (t : Members) (m : Member) → AllZip HoldsClient ts ms
    → HoldsClient t m → AllZip HoldsClient (ts ++ t ∷ []) (ms ++ m ∷ [])
held_push [] [] t m so here = (here, tt)
held_push (u ∷ ts) (n ∷ ms) t m so here = (so.0, held_push ts ms t m so.1 here)
held_push ts ms t m so here = absurd so

pub built_more : {A : Type 0} (f : A → Members) (xs : List A) (i : ℕ) (ms more : List Member) (v : A) (t : Members)
    (m : Member) → i < length xs
    → AllZip HoldsClient (map f (take i xs)) ms → v ≡ get_or xs i v → t ≡ f v → HoldsClient t m → more ≡ ms ++ m ∷ []
    → AllZip HoldsClient (map f (take (i + 1) xs)) more
built_more f xs i ms more v t m less so at same here pushed =
    rw (pushed, map_more f xs i v less, ← at, ← same) (held_push (map f (take i xs)) ms t m so here)
