-- The seat for a label: a client of this label may sit there, and where there is none it may sit nowhere.
use Rattle.std.proofs.Common.{Bool, Err, IfErr, IfOk, List, None, Ok, Option, Result, Some, ap}
use Rattle.std.proofs.Common.{arith, false, find, nat_lt, if◌then◌else◌, inl, inr, length}
use Rattle.std.proofs.Common.{refl, slice_get, sym, true, ℕ, ◌<◌, ◌∙◌, ◌≡◌, ◌≢◌}
use Rattle.nit_host.proofs.Basics.{HostModel, IsConfiguration, IsFreeLabel, State, TakesIn}
use Rattle.nit_host.proofs.Basics.{Unseated, and_parts, bytes_eq-Decides, cases_lt}
use Rattle.nit_host.proofs.Basics.{fails_before_first, false≢true, find_at, free_seat, has_label}
use Rattle.nit_host.proofs.Basics.{is_free_in, is_taken, labelled_or_first, layer}
use Rattle.nit_host.proofs.Basics.{length-range_with_len, member, most_comings, nat_tests}
use Rattle.nit_host.proofs.Basics.{passes_at_first, position_or_len, range_with_len, same_Some}
use Rattle.nit_host.proofs.Basics.{seat_for, seats_of, session, slice_get-get_or, slice_get_within}
use Rattle.nit_host.proofs.Basics.{unseated}
use Rattle.nit_host.proofs.Beginnings.{free_not_taken, free_of, in_order, label_decides, no_client}
use Rattle.nit_host.specs.declared.refusal.Unseated.TheVariants as why
use Rattle.nit_host.proofs.Seatings.{MaySit, may_sit, not_live}

-- ---- the first of so many numbers

module _ (p : ℕ → Bool) (n : ℕ) where
  abbrev at : ℕ
  at = position_or_len p (range_with_len 0 n)

  first_found : (i : ℕ) → find p (range_with_len 0 n) ≡ Some i → (i < n) × (p i ≡ true)
  first_found i found =
      let long = length-range_with_len 0 n in
      let placed : slice_get (range_with_len 0 n) at ≡ Some i = sym (find_at p (range_with_len 0 n)) ∙ found in
      let inside = slice_get_within (range_with_len 0 n) at i placed in
      let numbered : at < n = omega (arith, inside, long) in
      let own : i ≡ at = same_Some i _ (sym placed ∙ slice_get-get_or (range_with_len 0 n) at 0 inside)
      ∙ in_order n at 0 numbered in
      let passes = passes_at_first p (range_with_len 0 n) 0 inside in
      rw own (numbered, ap p (sym (in_order n at 0 numbered)) ∙ passes)

  none_found : find p (range_with_len 0 n) ≡ None → (k : ℕ) → k < n → p k ≡ false
  none_found found k inside =
      let long = length-range_with_len 0 n in
      elim (cases_lt at (length (range_with_len 0 n))) [
        | inl there ↦
            let wrong = sym found ∙ find_at p (range_with_len 0 n) ∙ slice_get-get_or (range_with_len 0 n) at 0 there in
            cc
        | inr past ↦ ap p (sym (in_order n k 0 inside))
            ∙ fails_before_first p (range_with_len 0 n) k 0 (omega (arith, past, inside, long))
      ]

-- ---- the seat

module _ (h : HostModel) (label : List ℕ) (configured : IsConfiguration h.state.config)
    (long : length h.state.sessions ≡ length h.state.config.clients) where
  abbrev s : State
  s = h.state

  has_it : (t : ℕ) → has_label s label t ≡ true → (member s.config t).label ≡ label
  has_it t is = (bytes_eq-Decides (member s.config t).label label).0 is

  -- where nothing is against a seat
  sits : (seat : ℕ) → seat < length s.sessions → is_taken s seat ≡ false → IsFreeLabel s.config seat label
      → nat_lt h.turns.given most_comings ≡ true → unseated h seat label ≡ None
  sits seat inside free own more =
      label_decides h seat label false inside free (free_not_taken s seat label long own) ∙ rw more refl

  differ : (t seat : ℕ) → t < length s.config.clients → seat < length s.config.clients → t ≢ seat
      → (member s.config t).label ≢ (member s.config seat).label
  differ t seat there inside other same =
      elim (cases_lt t seat) [
        | inl before ↦ configured.labels t seat no_client before inside same
        | inr after ↦ configured.labels seat t no_client (omega (arith, after, other)) there (sym same)
      ]

  -- clients may still come to the seat that is answered
  comes_if : (b : Bool) (t seat : ℕ) → (if b then Ok t else Err why.WornOut) ≡ Ok seat → (b ≡ true) × (t ≡ seat)
  comes_if true t seat is = (refl, cc)
  comes_if false t seat is = cc

  free_if : (l seat : ℕ) → is_free_in s l seat ≡ true → (is_taken s seat ≡ false) × (layer s.config seat ≡ l)
  free_if l seat is = grind (arith, nat_tests, and_parts)

  takes_labelled : (l t seat : ℕ) (free more : Bool) → is_free_in s l t ≡ free → nat_lt h.turns.given most_comings ≡ more
      → (if free then (if more then Ok t else Err why.WornOut) else Err why.LabelTaken) ≡ Ok seat
      → find (has_label s label) (seats_of s) ≡ Some t → TakesIn h label l seat
  takes_labelled l t seat false more free_is more_is is found = cc
  takes_labelled l t seat true more free_is more_is is found =
      let there = first_found (has_label s label) (length s.sessions) t found in
      let comes = comes_if more t seat is in
      let free = free_if l t free_is in
      rw (← comes.1) (record {
        layer = free.1;
        takes = sits t there.0 free.0 (λ u inside other same.
            differ u t inside (omega (arith, there.0, long)) other (same ∙ sym (has_it t there.1))) (more_is ∙ comes.0);
      })

  takes_first : (l seat : ℕ) (o : Option ℕ) (more : Bool) → find (is_free_in s l) (seats_of s) ≡ o
      → nat_lt h.turns.given most_comings ≡ more → free_seat h o ≡ Ok seat
      → find (has_label s label) (seats_of s) ≡ None → TakesIn h label l seat
  takes_first l seat None more o_is more_is is found = cc
  takes_first l seat (Some t) more o_is more_is is found =
      let there = first_found (is_free_in s l) (length s.sessions) t o_is in
      let comes = comes_if (nat_lt h.turns.given most_comings) t seat is in
      let free = free_if l t there.1 in
      rw (← comes.1) (record {
        layer = free.1;
        takes = sits t there.0 free.0 (λ u inside other same.
            false≢true (sym (none_found (has_label s label) (length s.sessions) found u (omega (arith, inside, long)))
            ∙ (bytes_eq-Decides (member s.config u).label label).1 same)) comes.0;
      })

  seat_takes : (l seat : ℕ) → seat_for h label l ≡ Ok seat → TakesIn h label l seat
  seat_takes l seat = by_found (find (has_label s label) (seats_of s)) refl
    where
      by_found : (o : Option ℕ) → find (has_label s label) (seats_of s) ≡ o → labelled_or_first h l o ≡ Ok seat
          → TakesIn h label l seat
      by_found (Some t) found is = takes_labelled l t seat _ _ refl refl is found
      by_found None found is = takes_first l seat _ _ refl refl is found

  pub found_takes : (l : ℕ) (r : Result ℕ Unseated) → r ≡ seat_for h label l → IfOk r (λ seat. TakesIn h label l seat)
  found_takes l (Err e) is = tt
  found_takes l (Ok seat) is = seat_takes l seat (sym is)

  no_seat_takes : (l : ℕ) (e : Unseated) → seat_for h label l ≡ Err e → (seat : ℕ) → TakesIn h label l seat → ⊥
  no_seat_takes l e none seat takes = by_found (find (has_label s label) (seats_of s)) refl none
    where
      may : MaySit h seat label
      may = may_sit refl (sym takes.takes)

      over : is_taken s seat ≡ false
      over = not_live (session s seat).status may.over

      free : is_free_in s l seat ≡ true
      free = grind (arith, nat_tests)

      more : nat_lt h.turns.given most_comings ≡ true
      more = grind (arith, nat_tests)

      by_label : (t : ℕ) (b c : Bool) → is_free_in s l t ≡ b → nat_lt h.turns.given most_comings ≡ c
          → (if b then (if c then Ok t else Err why.WornOut) else Err why.LabelTaken) ≡ Err e
          → find (has_label s label) (seats_of s) ≡ Some t → ⊥
      by_label t true true b_is c_is gone found = cc
      by_label t true false b_is c_is gone found = false≢true (sym c_is ∙ more)
      by_label t false c b_is c_is gone found =
          let there = first_found (has_label s label) (length s.sessions) t found in
          free_of s seat label long may.free t (omega (arith, there.0, long))
          (λ own. false≢true (sym b_is ∙ ap (is_free_in s l) own ∙ free)) (has_it t there.1)

      by_first : (o : Option ℕ) (c : Bool) → find (is_free_in s l) (seats_of s) ≡ o
          → nat_lt h.turns.given most_comings ≡ c → free_seat h o ≡ Err e → ⊥
      by_first None c o_is c_is gone =
          false≢true (sym (none_found (is_free_in s l) (length s.sessions) o_is seat may.inside) ∙ free)
      by_first (Some t) c o_is c_is gone =
          let wrong : (if true then Ok t else Err why.WornOut) ≡ Err e =
          (λ i. if sym more i then Ok t else Err why.WornOut) ∙ gone in
          cc

      by_found : (o : Option ℕ) → find (has_label s label) (seats_of s) ≡ o → labelled_or_first h l o ≡ Err e → ⊥
      by_found (Some t) found gone = by_label t _ _ refl refl gone found
      by_found None found gone = by_first _ _ refl refl gone

  pub none_takes : (l : ℕ) (r : Result ℕ Unseated) → r ≡ seat_for h label l
      → IfErr r (λ e. (seat : ℕ) → TakesIn h label l seat → ⊥)
  none_takes l (Ok seat) is = tt
  none_takes l (Err e) is = no_seat_takes l e (sym is)
