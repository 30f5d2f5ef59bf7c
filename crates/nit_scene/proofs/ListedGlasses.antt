-- The scene's glasses: each session has one of its table, whatever is loaded.
use Rattle.std.proofs.Common.{List, ap, arith, inl, inr, length, map, set, slice_index_or, sym, ℕ, ◌<◌, ◌∙◌, ◌≡◌}
use Rattle.std.proofs.lemmas.List.{get_or-map}
use Rattle.nit_scene.proofs.Basics.{AreListedGlasses, Configuration, IsGlass, Sight, cases_eq}
use Rattle.nit_scene.proofs.Basics.{get_or-set_other, get_or-set_same, glass_in, length-map, length-set}
use Rattle.nit_scene.proofs.Basics.{map-set, nat_tests, no_sight, seen, with_glass}

module _ {G R : Type 0} (sight : G → Sight) (rest : G → R) {config config' : Configuration} (gs gs' : List G)
    (rests : map rest gs' ≡ map rest gs) (h : AreListedGlasses sight config gs) (same : config' ≡ config)
    (loads : ℕ → List (ℕ × ℕ)) where
  count : length gs' ≡ length gs
  count = sym (length-map gs' rest) ∙ ap length rests ∙ length-map gs rest

  -- words were loaded through the list alone
  pub listed_on : ((t : ℕ) → glass_in (map sight gs') t ≡ seen (glass_in (map sight gs) t) (loads t))
      → AreListedGlasses sight config' gs'
  listed_on saw = rw same (record {
    each = count ∙ h.each;
    tables = λ t l. rw (saw t) (h.tables t l);
  })

  -- words of one session were loaded through another glass, and those of all others through the list
  pub listed_beside : (sid : ℕ) (own own' : Sight) → ((t : ℕ) → with_glass (glass_in (map sight gs')) sid own' t
      ≡ seen (with_glass (glass_in (map sight gs)) sid own t) (loads t))
      → glass_in (map sight gs') sid ≡ glass_in (map sight gs) sid → AreListedGlasses sight config' gs'
  listed_beside sid own own' saw idle = rw same (record {
    each = count ∙ h.each;
    tables = λ t l. (
      grind (arith, nat_tests, saw t, idle, (h.tables t l).0),
      grind (arith, nat_tests, saw t, idle, (h.tables t l).1),
    );
  })

-- the glasses of a call are those of their tables
pub beside_listed : {G : Type 0} {sight : G → Sight} {config : Configuration} {gs : List G} (sid : ℕ) (own : Sight)
    → AreListedGlasses sight config gs → IsGlass config sid own → (t : ℕ) → t < length config.clients
    → IsGlass config t (with_glass (glass_in (map sight gs)) sid own t)
beside_listed sid own h is t l =
    (grind (arith, nat_tests, is.0, (h.tables t l).0), grind (arith, nat_tests, is.1, (h.tables t l).1))

-- each session has a glass of its own when one of them is exchanged for another of its session
pub listed_set : {G : Type 0} {sight : G → Sight} {config : Configuration} {gs : List G} (sid : ℕ) (x : G)
    → IsGlass config sid (sight x) → sid < length config.clients → AreListedGlasses sight config gs
    → AreListedGlasses sight config (set gs sid x)
listed_set {sight = sight} {gs = gs} sid x is inside h = record {
  each = length-set gs sid x ∙ h.each;
  tables = λ t l. rw map-set (elim (cases_eq t sid) [
    | inl e ↦ rw (e, get_or-set_same (map sight gs) sid (sight x) no_sight (rw (length-map, h.each) inside)) is
    | inr other ↦ rw (get_or-set_other (map sight gs) sid t (sight x) no_sight other) (h.tables t l)
  ]);
}

-- a glass of the list is changed, and not whose it is or how many words it has
pub listed_changed : {G : Type 0} {sight : G → Sight} {config : Configuration} {gs : List G} (sid : ℕ) (x x' : G)
    → x ≡ slice_index_or gs sid x → sid < length config.clients → (sight x').owner ≡ (sight x).owner
    → (sight x').size ≡ (sight x).size → AreListedGlasses sight config gs → AreListedGlasses sight config (set gs sid x')
listed_changed {sight = sight} {gs = gs} sid x x' is inside owner size h =
    let it : sight x ≡ glass_in (map sight gs) sid =
    ap sight is ∙ sym (get_or-map sight gs sid x no_sight (rw h.each inside)) in
    listed_set sid x' (rw (owner, size, it) (h.tables sid inside)) inside h
