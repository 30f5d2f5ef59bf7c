-- Sights of all sessions, of which one is loaded.
use Rattle.nit_word.proofs.Basics.{Sight, ap, arith, enumerate_from, glass_in, loads_in_row}
use Rattle.nit_word.proofs.Basics.{get_or-map, get_or-set_at, get_or_past, length-map, map-set}
use Rattle.nit_word.proofs.Basics.{map-set_same, nat_tests, no_sight, seen, sym, with_glass}
use Rattle.std.proofs.Common.{List, cond, get_or-set_other, length, map, set, slice_index_or, ℕ}
use Rattle.std.proofs.Common.{◌<◌, ◌==◌, ◌∙◌, ◌≡◌, ◌≤◌}
use Rattle.nit_word.proofs.Loads.{seen_none}

-- a glass of a list, which a load leaves as another one
module _ {G : Type 0} (f : G → Sight) (gs : List G) (g g' : G) (sid : ℕ) (is : g ≡ slice_index_or gs sid g)
    (l : sid < length gs) where
  pub it_is : f g ≡ glass_in (map f gs) sid
  it_is = ap f is ∙ sym (get_or-map f gs sid g no_sight l)

  all_of : sid < length (map f gs)
  all_of = rw length-map l

  now_at : (t : ℕ) → glass_in (map f (set gs sid g')) t ≡ cond (t == sid) (f g') (glass_in (map f gs) t)
  now_at t =
      let other = get_or-set_other (map f gs) sid t (f g') no_sight in
      rw (map-set f gs sid g') (grind (arith, nat_tests, get_or-set_at (map f gs) sid t (f g') no_sight, other, all_of))

  pub listed_seen : (from : ℕ) (row : List ℕ) → f g' ≡ seen (f g) (enumerate_from from row) → (t : ℕ)
      → glass_in (map f (set gs sid g')) t ≡ seen (glass_in (map f gs) t) (loads_in_row sid from row t)
  listed_seen from row saw t = rw (now_at t) (grind (arith, nat_tests, it_is, saw, seen_none (glass_in (map f gs) t)))

-- what a load leaves of a glass stays in the list of all
pub left_at : {G R : Type 0} (f : G → R) (gs : List G) (g g' : G) (t : ℕ) → g ≡ slice_index_or gs t g → f g' ≡ f g
    → map f (set gs t g') ≡ map f gs
left_at f gs g g' t is e = map-set_same f gs t g' g (e ∙ ap f is)

-- after the last glass there is none
pub none_listed : {G : Type 0} (f : G → Sight) (gs : List G) (sid : ℕ) → length gs ≤ sid
    → glass_in (map f gs) sid ≡ no_sight
none_listed f gs sid l = get_or_past (map f gs) sid no_sight (rw length-map l)
