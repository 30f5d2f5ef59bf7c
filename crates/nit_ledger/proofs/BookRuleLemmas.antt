-- Each kind of step keeps the rule of a book.
use Rattle.nit_ledger.proofs.Basics.{Allows, Bears, BearsShare, BookView, FitsView, IsBookAt}
use Rattle.nit_ledger.proofs.Basics.{IsBookRule, IsTokenInStep, Joins, OfBook, OfShare, Recorded}
use Rattle.nit_ledger.proofs.Basics.{Spent, Splits, State, StepDone, Token, append-nil, at_last}
use Rattle.nit_ledger.proofs.Basics.{at_longer, at_set, book_at_rest, book_with_share, cases_eq}
use Rattle.nit_ledger.proofs.Basics.{get_or-append_seam, get_or_append_left, keeps, length-set}
use Rattle.nit_ledger.proofs.Basics.{opening, raised_by, set-get_or, set_else, set_here, step}
use Rattle.nit_ledger.proofs.Basics.{token}
use Rattle.std.proofs.Common.{List, None, Option, Some, [], add-zero, ap, append_assoc, arith, cond}
use Rattle.std.proofs.Common.{eq-eqb, eqb, get_or-set_other, get_or-set_same, inl, inr, length}
use Rattle.std.proofs.Common.{length-append, ne_eqb, refl, set, slice_index, suc, sym, zero, ℕ}
use Rattle.std.proofs.Common.{⊎_elim, ◌++◌, ◌+◌, ◌<◌, ◌∙◌, ◌∷◌, ◌≡◌, ◌≢◌, ◌⊎◌}
use mathlib.Core.Option.{none, some, some-injective, some-ne-none}
use lib.ListN.{get_elem?}

at_snoc : {A : Type 0} (l : List A) (a b : A) (j : ℕ) → get_elem? (l ++ a ∷ []) j ≡ some b → (get_elem? l j ≡ some b)
    ⊎ ((j ≡ length l) × (a ≡ b))
at_snoc [] a b zero e = inr (refl, some-injective a b e)
at_snoc [] a b (suc j) e = absurd (some-ne-none b (sym e))
at_snoc (x ∷ xs) a b zero e = inl e
at_snoc (x ∷ xs) a b (suc j) e = ⊎_elim (λ p. inl p) (λ q. inr (ap suc q.0, q.1)) (at_snoc xs a b j e)

-- what holds of each other view, and of the new one, holds of all
over_set : (F : ℕ → BookView → Type 0) (views : List BookView) (by : ℕ) (w : BookView)
    → ((j : ℕ) (u : BookView) → j ≢ by → get_elem? views j ≡ some u → F j u) → F by w → (j : ℕ) (u : BookView)
    → get_elem? (set views by w) j ≡ some u → F j u
over_set F views by w others mine j u e = elim (at_set views by j w u e) [
  | inl x ↦ rw (x.0, ← x.1) mine
  | inr x ↦ others j u x.0 x.1
]

over_snoc : (F : ℕ → BookView → Type 0) (views : List BookView) (w : BookView)
    → ((j : ℕ) (u : BookView) → get_elem? views j ≡ some u → F j u) → F (length views) w → (j : ℕ) (u : BookView)
    → get_elem? (views ++ w ∷ []) j ≡ some u → F j u
over_snoc F views w others mine j u e = elim (at_snoc views w u j e) [
  | inl x ↦ others j u x
  | inr x ↦ rw (x.0, ← x.1) mine
]

-- who holds a number, after the number n has moved
moved : (ℕ → ℕ) → ℕ → ℕ → ℕ → ℕ
moved holder n to k = cond (eqb k n) to (holder k)

moved_here : (holder : ℕ → ℕ) (n to k : ℕ) → k ≡ n → moved holder n to k ≡ to
unfolding moved
moved_here holder n to k e = rw eq-eqb

moved_else : (holder : ℕ → ℕ) (n to k : ℕ) → k ≢ n → moved holder n to k ≡ holder k
unfolding moved
moved_else holder n to k e = rw ne_eqb

-- the view of another seat is a share's or is spent, and a share's still fits where its number is none that moved
other_fits : (es es' : List Recorded) (cs cs' : List ℕ) (seat : ℕ) (holder holder' : ℕ → ℕ) (j : ℕ) (u : BookView)
    → j ≢ seat
    → ((t : Token) → holder t.number ≡ j → IsTokenInStep es cs t → (holder' t.number ≡ j) × IsTokenInStep es' cs' t)
    → FitsView es cs seat holder j u → FitsView es' cs' seat holder' j u
other_fits es es' cs cs' seat holder holder' j (OfBook e c t) apart part f = absurd (apart f.0)
other_fits es es' cs cs' seat holder holder' j (OfShare t) apart part f = part t f.0 f.1
other_fits es es' cs cs' seat holder holder' j Spent apart part f = tt

at_within : {A : Type 0} (l : List A) (i : ℕ) (a : A) → get_elem? l i ≡ some a → i < length l
at_within [] i a e = absurd (some-ne-none a (sym e))
at_within (x ∷ xs) zero a e = omega arith
at_within (x ∷ xs) (suc i) a e = let h = at_within xs i a e in omega arith

stands_set : (views : List BookView) (by : ℕ) (w : BookView) (j n : ℕ) → j ≢ by → BearsShare views j n
    → BearsShare (set views by w) j n
stands_set views by w j n apart s = (s.0, set_else views by j w apart ∙ s.1, s.2)

stands_here : (views : List BookView) (by : ℕ) (v w : BookView) (n : ℕ) → get_elem? views by ≡ some v → Bears n w
    → BearsShare (set views by w) by n
stands_here views by v w n at b = (w, set_here views by w (at_within views by v at), b)

stands_push : (views : List BookView) (w : BookView) (j n : ℕ) → BearsShare views j n → BearsShare (views ++ w ∷ []) j n
stands_push views w j n s = (s.0, at_longer views (w ∷ []) j s.0 s.1, s.2)

stands_last : (views : List BookView) (w : BookView) (n : ℕ) → Bears n w → BearsShare (views ++ w ∷ []) (length views) n
stands_last views w n b = (w, at_last views w (length views) refl, b)

-- a number is held elsewhere where the view does not hold it
elsewhere : (views : List BookView) (by : ℕ) (v : BookView) (j n : ℕ) → get_elem? views by ≡ some v → (Bears n v → ⊥)
    → BearsShare views j n → j ≢ by
elsewhere views by v j n at free s e = free (rw (some-injective _ _ (sym (rw e at s.1) ∙ at)) at s.2)

-- the holder of a number, by whether it is the one that moved
by_number : (holder : ℕ → ℕ) (views : List BookView) (m to n : ℕ) → (n ≡ m → BearsShare views to n)
    → (n ≢ m → BearsShare views (holder n) n) → BearsShare views (moved holder m to n) n
by_number holder views m to n hit miss = elim (cases_eq n m) [
  | inl e ↦ rw (moved_here holder m to n e) (hit e)
  | inr e ↦ rw (moved_else holder m to n e) (miss e)
]

-- the book's view is at its seat after a step of that seat, where a view is put after the others
booked_push : (views : List BookView) (id : ℕ) (v w : BookView) (es : List Recorded) (cs : List ℕ)
    (taken : Option Token) → get_elem? views id ≡ some v
    → IsBookAt (set views id (OfBook es cs taken) ++ w ∷ []) id es cs
booked_push views id v w es cs taken at =
    (taken, at_longer (set views id (OfBook es cs taken)) (w ∷ []) id _ (set_here views id _ (at_within views id v at)))

pub begins : IsBookRule (opening {S = Unit {0}} (0 ∷ []) [] (OfBook [] [] None))
begins = record {
  entries = [];
  counts = [];
  seat = 0;
  holder = λ n. 0;
  word = refl;
  book = (None, refl);
  fits = one;
  held = λ n lt. absurd (omega arith);
}
  where
    one : (by : ℕ) (v : BookView) → get_elem? (OfBook [] [] None ∷ []) by ≡ some v → FitsView [] [] 0 (λ n. 0) by v
    one zero v e = rw (← some-injective _ _ e) (refl, refl, refl, tt)
    one (suc by) v e = absurd (some-ne-none v (sym e))

module _ {s : State (Unit {0}) BookView} (kept : IsBookRule s) (id : ℕ) {es : List Recorded} {cs : List ℕ}
    {t : Option Token} (at : get_elem? s.views id ≡ some (OfBook es cs t)) where
  -- the rule, at the view of the book's seat
  settled : (j : ℕ) (u : BookView) → get_elem? s.views j ≡ some u → FitsView es cs id kept.holder j u
  settled j u e =
      let here = kept.fits id (OfBook es cs t) at in
      rw (here.0, here.1, here.2) (kept.fits j u e)

  -- a number that the book does not bear stays where it was
  still_held : (w : BookView) (n : ℕ) → n < length cs → (Bears n (OfBook es cs t) → ⊥)
      → BearsShare (set s.views id w) (kept.holder n) n
  still_held w n lt free =
      let counts : cs ≡ kept.counts = (kept.fits id (OfBook es cs t) at).2 in
      let was = kept.held n (rw counts at lt) in
      stands_set s.views id w (kept.holder n) n (elsewhere s.views id _ (kept.holder n) n at free was) was

opened_part : (es : List Recorded) (cs : List ℕ) (holder : ℕ → ℕ) (to j : ℕ) (t : Token) → holder t.number ≡ j
    → IsTokenInStep es cs t → (moved holder (length cs) to t.number ≡ j) × IsTokenInStep es (cs ++ 0 ∷ []) t
opened_part es cs holder to j t h a =
    let below = a.below in (
      moved_else holder (length cs) to t.number (omega arith) ∙ h,
      record {
        below = omega (arith, length-append cs (0 ∷ []));
        counted = get_or_append_left cs (0 ∷ []) 0 t.number a.below ∙ a.counted;
        front = a.front;
      },
    )

pub opens : (id : ℕ) (es : List Recorded) (cs : List ℕ)
    → Splits IsBookRule id (book_at_rest es cs) (book_at_rest es (cs ++ 0 ∷ [])) (OfShare (token (length cs) 0 es))
opens id es cs s kept at =
    let w : BookView = book_at_rest es (cs ++ 0 ∷ []) in
    let to : ℕ = length (set s.views id w) in
    let holder : ℕ → ℕ = moved kept.holder (length cs) to in
    let F : ℕ → BookView → Type 0 = FitsView es (cs ++ 0 ∷ []) id holder in
    record {
      entries = es;
      counts = cs ++ 0 ∷ [];
      seat = id;
      holder = holder;
      word = kept.word;
      book = booked_push s.views id (book_at_rest es cs) (OfShare (token (length cs) 0 es)) es (cs ++ 0 ∷ []) None at;
      fits = over_snoc F (set s.views id w) (OfShare (token (length cs) 0 es))
          (over_set F s.views id w
          (λ j u apart e. other_fits es es cs (cs ++ 0 ∷ []) id kept.holder holder j u apart
          (opened_part es cs kept.holder to j) (settled kept id at j u e))
          (refl, refl, refl, tt)) (
            moved_here kept.holder (length cs) to (length cs) refl,
            record {
              below = omega (arith, length-append cs (0 ∷ []));
              counted = get_or-append_seam cs 0 [] 0;
              front = ([], append-nil es);
            },
          );
      held = λ n lt. by_number kept.holder (set s.views id w ++ OfShare (token (length cs) 0 es) ∷ []) (length cs) to n
          (λ e. stands_last (set s.views id w) (OfShare (token (length cs) 0 es)) n (sym e))
          (λ ne. stands_push (set s.views id w) _ (kept.holder n) n
          (still_held kept id at w n (omega (arith, lt, length-append cs (0 ∷ []))) (λ b. b)));
    }

taken_part : (es : List Recorded) (cs : List ℕ) (holder : ℕ → ℕ) (n to from j : ℕ) → holder n ≡ from → j ≢ from
    → (t : Token) → holder t.number ≡ j → IsTokenInStep es cs t → (moved holder n to t.number ≡ j)
    × IsTokenInStep es cs t
taken_part es cs holder n to from j is apart t h a =
    (moved_else holder n to t.number (λ q. apart (sym h ∙ ap holder q ∙ is)) ∙ h, a)

pub takes : (id : ℕ) (es : List Recorded) (cs : List ℕ) (other : ℕ) (t : Token)
    → Joins IsBookRule id (book_at_rest es cs) other (OfShare t) (book_with_share es cs t) Spent
takes id es cs other t s kept at apart there =
    let w : BookView = book_with_share es cs t in
    let holder : ℕ → ℕ = moved kept.holder t.number id in
    let F : ℕ → BookView → Type 0 = FitsView es cs id holder in
    let all = settled kept id at in
    let theirs : (kept.holder t.number ≡ other) × IsTokenInStep es cs t =
    all other (OfShare t) (sym (set_else s.views id other w apart) ∙ there) in
    record {
      entries = es;
      counts = cs;
      seat = id;
      holder = holder;
      word = kept.word;
      book = (
        Some t,
        set_else (set s.views id w) other id Spent (λ q. apart (sym q))
            ∙ set_here s.views id w (at_within s.views id (book_at_rest es cs) at),
      );
      fits = over_set F (set s.views id w) other Spent (λ j u off e.
          over_set (λ i v. i ≢ other → F i v) s.views id w (λ i v apart' e' off'.
          other_fits es es cs cs id kept.holder holder i v apart'
          (taken_part es cs kept.holder t.number id other i theirs.0 off') (all i v e'))
          (λ off'. (refl, refl, refl, (theirs.1, moved_here kept.holder t.number id t.number refl))) j u e off) tt;
      held = λ n lt. by_number kept.holder (set (set s.views id w) other Spent) t.number id n
          (λ e. stands_set (set s.views id w) other Spent id n (λ q. apart (sym q))
          (stands_here s.views id (OfBook es cs None) w n at (sym e)))
          (λ ne.
          let still = still_held kept id at w n lt (λ b. b) in
          stands_set (set s.views id w) other Spent (kept.holder n) n
          (elsewhere (set s.views id w) other (OfShare t) (kept.holder n) n there (λ b. ne (sym b)) still) still);
    }

pub gives : (id : ℕ) (es : List Recorded) (cs : List ℕ) (t : Token)
    → Splits IsBookRule id (book_with_share es cs t) (book_at_rest es cs) (OfShare t)
gives id es cs t s kept at =
    let w : BookView = book_at_rest es cs in
    let to : ℕ = length (set s.views id w) in
    let holder : ℕ → ℕ = moved kept.holder t.number to in
    let F : ℕ → BookView → Type 0 = FitsView es cs id holder in
    let all = settled kept id at in
    let mine = (all id (OfBook es cs (Some t)) at).3 in
    record {
      entries = es;
      counts = cs;
      seat = id;
      holder = holder;
      word = kept.word;
      book = booked_push s.views id (book_with_share es cs t) (OfShare t) es cs None at;
      fits = over_snoc F (set s.views id w) (OfShare t)
          (over_set F s.views id w
          (λ j u apart e. other_fits es es cs cs id kept.holder holder j u apart
          (taken_part es cs kept.holder t.number to id j mine.1 apart) (all j u e))
          (refl, refl, refl, tt))
          (moved_here kept.holder t.number to t.number refl, mine.0);
      held = λ n lt. by_number kept.holder (set s.views id w ++ OfShare t ∷ []) t.number to n
          (λ e. stands_last (set s.views id w) (OfShare t) n (sym e))
          (λ ne. stands_push (set s.views id w) (OfShare t) (kept.holder n) n
          (still_held kept id at w n lt (λ b. ne (sym b))));
    }

-- another share, after the share n has added entries and counted
grown_part : (es : List Recorded) (cs : List ℕ) (added : List Recorded) (risen : ℕ) (holder : ℕ → ℕ) (n id j : ℕ)
    → holder n ≡ id → j ≢ id → (t : Token) → holder t.number ≡ j → IsTokenInStep es cs t
    → (holder t.number ≡ j) × IsTokenInStep (es ++ added) (raised_by cs n risen) t
grown_part es cs added risen holder n id j is apart t h a =
    let below = a.below in
    let ne : t.number ≢ n = λ q. apart (sym h ∙ ap holder q ∙ is) in (
      h,
      record {
        below = omega (arith, length-set cs n (slice_index cs n + risen));
        counted = get_or-set_other cs n t.number (slice_index cs n + risen) 0 ne ∙ a.counted;
        front = (a.front.0 ++ added, sym (append_assoc t.seen a.front.0 added) ∙ ap (λ w. w ++ added) a.front.1);
      },
    )

-- the share that is taken in adds entries and counts
pub does : (slots id : ℕ) (es : List Recorded) (cs : List ℕ) (t : Token) (added : List Recorded) (risen : ℕ)
    → Allows IsBookRule slots id (book_with_share es cs t, []) 0 (λ n. n)
    (StepDone added risen (step slots 0 0 0 none) (book_with_share es cs t, []))
does slots id es cs t added risen s kept homes at fits =
    let es' : List Recorded = es ++ added in
    let cs' : List ℕ = raised_by cs t.number risen in
    let t' : Token = token t.number (t.count + risen) es' in
    let w : BookView = book_with_share es' cs' t' in
    let F : ℕ → BookView → Type 0 = FitsView es' cs' id kept.holder in
    let all = settled kept id at in
    let mine = (all id (OfBook es cs (Some t)) at).3 in
    let below = mine.0.below in (
      w,
      keeps,
      tt,
      record {
        entries = es';
        counts = cs';
        seat = id;
        holder = kept.holder;
        word = ap (λ (ws : List ℕ). set ws 0 (slice_index ws 0)) kept.word;
        book = (Some t', set_here s.views id w (at_within s.views id (book_with_share es cs t) at));
        fits = over_set F s.views id w
            (λ j u apart x. other_fits es es' cs cs' id kept.holder kept.holder j u apart
            (grown_part es cs added risen kept.holder t.number id j mine.1 apart) (all j u x)) (
              refl,
              refl,
              refl,
              (
                record {
                  below = omega (arith, length-set cs t.number (slice_index cs t.number + risen));
                  counted =
                      get_or-set_same cs t.number (slice_index cs t.number + risen) 0 mine.0.below
                      ∙ ap (λ (k : ℕ). k + risen) mine.0.counted;
                  front = ([], append-nil es');
                },
                mine.1,
              ),
            );
        held = λ n lt. elim (cases_eq n t.number) [
          | inl e ↦ rw (e, mine.1) (stands_here s.views id (OfBook es cs (Some t)) w t.number at refl)
          | inr ne ↦
              let less : n < length cs = omega (arith, lt, length-set cs t.number (slice_index cs t.number + risen)) in
              still_held kept id at w n less (λ b. ne (sym b))
        ];
      },
      ((refl, mine.0), refl),
    )

-- a count that rises by nothing stays
pub raised_by-zero : (counts : List ℕ) (number : ℕ) → raised_by counts number 0 ≡ counts
raised_by-zero counts number = rw (add-zero, set-get_or counts number 0)
