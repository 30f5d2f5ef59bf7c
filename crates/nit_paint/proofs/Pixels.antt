-- Pixels that stand side by side: what one more does, and how runs of them go together.
use Rattle.nit_paint.proofs.Basics.{IsAmongLoads, IsLoadedRow, IsWordOfSource, PixelSource, Reach}
use Rattle.nit_paint.proofs.Basics.{Repainted, Sight, Word, at_place, enumerate_from, get_or-set_at}
use Rattle.nit_paint.proofs.Basics.{in_run, loaded_after, loads_in_row, loads_of, long, more_taken}
use Rattle.nit_paint.proofs.Basics.{nat_tests, own_word, row_source, seen, seen_none, seen_twice}
use Rattle.nit_paint.proofs.Basics.{set-get_or, take_all}
use Rattle.std.proofs.Common.{List, Some, [], add-one, ap, arith, cond, false, get_or}
use Rattle.std.proofs.Common.{get_or-set_other, le_refl, length, length-set, refl, set, subst, suc}
use Rattle.std.proofs.Common.{sym, take, true, zero, ℕ, ◌+◌, ◌-◌, ◌<◌, ◌==◌, ◌∙◌, ◌∷◌, ◌≡◌, ◌≤◌}
use borrow.Rule.Slice.PartMut.{put_mid}
use Rattle.nit_paint.proofs.RepaintLemmas.{none_shown, repainted_none, repainted_one}
use Rattle.nit_paint.proofs.RepaintLemmas.{repainted_same, repainted_there, repainted_union}

-- a pixel that shows no word of a glass
own_shown : (glasses : ℕ → Sight) (loads : ℕ → List (ℕ × ℕ)) (s : PixelSource) (w : ℕ) → own_word s ≡ Some w
    → IsWordOfSource glasses s w × IsAmongLoads loads s w
own_shown glasses loads (Word t i) w e = cc
own_shown glasses loads other w e = (cc, tt)

-- a run of one word, for which nothing is loaded
pub filled : (source : ℕ → PixelSource) (at count n w : ℕ) (glasses : ℕ → Sight) (raw mid : List ℕ) → n ≡ count
    → at + count ≤ length raw → length mid ≡ count → ((j : ℕ) → j < length mid → get_or mid j 0 ≡ w)
    → ((j : ℕ) → j < count → own_word (source (at + j)) ≡ Some w)
    → Repainted source (in_run at count) (length raw) glasses glasses raw (put_mid at n raw mid)
filled source at count n w glasses raw mid e room long same own = rw e (record {
  loads = λ t. [];
  sights = λ t. seen_none (glasses t);
  marked = λ k l m. rw (rw m at (put k)) (own_shown glasses (λ t. []) (source k) w (own_at k m));
  others = λ k out. let outside : in_run at count k ≡ false = grind (arith, nat_tests, out) in rw outside at (put k);
  counts = λ t i. sym (none_shown source (in_run at count) w t i (length raw) (λ k l m. own_at k m));
})
  where
    put : (k : ℕ) → get_or (put_mid at count raw mid) k 0 ≡ cond (in_run at count k) w (get_or raw k 0)
    put k = at_place at count (λ i. w) raw mid k room long (λ i inside. same i (omega arith))

    own_at : (k : ℕ) → in_run at count k ≡ true → own_word (source k) ≡ Some w
    own_at k m =
        let e : at + (k - at) ≡ k = grind (arith, nat_tests) in
        rw e at (own (k - at) (grind (arith, nat_tests)))

-- the words of a row that were put into the screen so far
abbrev written : ℕ → List ℕ → List ℕ → ℕ → List ℕ
written at row raw zero = raw
written at row raw (suc j) = set (written at row raw j) (at + j) (get_or row j 0)

written_long : (at : ℕ) (row raw : List ℕ) (j : ℕ) → length (written at row raw j) ≡ length raw
written_long at row raw zero = refl
written_long at row raw (suc j) = length-set (written at row raw j) (at + j) (get_or row j 0)
    ∙ written_long at row raw j

written_at : (at : ℕ) (row raw : List ℕ) (j k : ℕ) → at + j ≤ length raw → get_or (written at row raw j) k 0
    ≡ cond (in_run at j k) (get_or row (k - at) 0) (get_or raw k 0)
written_at at row raw zero k room = grind (arith, nat_tests)
written_at at row raw (suc j) k room =
    let before = written_at at row raw j k (omega arith) in
    let long = written_long at row raw j in
    let place : at + j - at ≡ j = omega arith in
    let here = get_or-set_at (written at row raw j) (at + j) k (get_or row j 0) 0 in
    grind (arith, nat_tests, here, get_or-set_other (written at row raw j) (at + j) k (get_or row j 0) 0)

-- a row that was loaded in one go
module _ (source : ℕ → PixelSource) (at n sid from : ℕ) (g : ℕ → Sight) (raw row : List ℕ)
    (fits : at + length row ≤ n) (count : n ≡ length raw)
    (is : (j : ℕ) → j < length row → source (at + j) ≡ Word sid (from + j)) (loaded : IsLoadedRow (g sid) from row) where
  -- the sights when so many of its words were loaded
  abbrev far : ℕ → ℕ → Sight
  far j t = seen (g t) (loads_in_row sid from (take j row) t)

  far_more : (j : ℕ) → j < length row → (t : ℕ)
      → far (j + 1) t ≡ seen (far j t) (loads_of (Word sid (from + j)) (get_or row j 0) t)
  far_more j l t =
      let more = rw (set-get_or row j 0) at (more_taken from j (get_or row j 0) row l) in
      let here = seen_twice (g t) (enumerate_from from (take j row)) ((from + j, get_or row j 0) ∷ []) in
      grind (arith, more, here, seen_none (g t))

  -- its first so many pixels
  row_written : (j : ℕ) → j ≤ length row
      → Repainted source (in_run at j) n g (far j) raw (written at row raw j)
  row_written zero few =
      repainted_same _ _ _ _ n g g g (far 0) raw raw (λ k l. refl) (λ k l m. refl) (λ t. refl)
      (λ t. grind (arith, seen_none (g t))) (repainted_none source (in_run at 0) n g raw (λ k l. grind (arith, nat_tests)))
  row_written (suc j) few =
      let w = get_or row j 0 in
      let long = written_long at row raw j in
      let here = is j (omega arith) in
      let held = loaded_after (g sid) (loads_in_row sid from (take j row) sid) (from + j) w (loaded j (omega arith)) in
      subst (λ (k : ℕ). Repainted source (in_run at k) n g (far k) raw (written at row raw (suc j))) (add-one j)
      (repainted_union _ (in_run at j) (λ k. k == (at + j)) (in_run at (j + 1)) _ _ _ _ _ _ _
      (λ k. grind (arith, nat_tests)) (λ k. grind (arith, nat_tests)) (row_written j (omega arith))
      (repainted_one source (at + j) w n _ _ _ (omega arith) (omega (arith, long, count)) (rw here held)
      (λ t. rw here (far_more j (omega arith) t))))

-- a row that was loaded in one go and put into the screen
pub row_loaded : (source : ℕ → PixelSource) (at count m sid from : ℕ) (g g' : ℕ → Sight)
    (raw row : List ℕ) → length row ≡ count → m ≡ count → at + count ≤ length raw
    → ((j : ℕ) → j < count → source (at + j) ≡ Word sid (from + j)) → IsLoadedRow (g sid) from row
    → ((t : ℕ) → g' t ≡ seen (g t) (loads_in_row sid from row t))
    → Repainted source (in_run at count) (length raw) g g' raw (put_mid at m raw row)
row_loaded source at count m sid from g g' raw row long all fits is loaded saw =
    let done = row_written source at (length raw) sid from g raw row (omega arith) refl
    (λ j l. is j (omega arith)) loaded (length row) (le_refl (length row)) in
    rw all (repainted_there source (in_run at count) (length raw) _ _ raw (written at row raw count) _
    (λ k. written_at at row raw count k fits
    ∙ sym (at_place at count (λ i. get_or row (i - at) 0) raw row k fits long
    (λ i inside. ap (λ (j : ℕ). get_or row j 0) (omega arith))))
    (rw long at (repainted_same _ _ _ _ _ g g _ g' _ _ (λ k l. refl) (λ k l m. refl) (λ t. refl)
    (λ t. ap (λ xs. seen (g t) (loads_in_row sid from xs t)) (take_all (length row) row (le_refl (length row)))
    ∙ sym (saw t)) done)))

-- one run after another
runs_both : (source : ℕ → PixelSource) (at a b n : ℕ) (before mid after : ℕ → Sight) (raw first last : List ℕ)
    → Repainted source (in_run at a) n before mid raw first
    → Repainted source (in_run (at + a) b) n mid after first last
    → Repainted source (in_run at (a + b)) n before after raw last
runs_both source at a b n before mid after raw first last r s =
    repainted_union _ (in_run at a) (in_run (at + a) b) (in_run at (a + b)) _ _ _ _ _ _ _
    (λ k. grind (arith, nat_tests)) (λ k. grind (arith, nat_tests)) r s

pub three_runs : (source : ℕ → PixelSource) (at a b d n m p : ℕ) (before after : ℕ → Sight)
    (raw first second last : List ℕ) → m ≡ n → p ≡ n
    → Repainted source (in_run at a) n before before raw first
    → Repainted source (in_run (at + a) b) m before after first second
    → Repainted source (in_run (at + a + b) d) p after after second last
    → Repainted source (in_run at (a + b + d)) n before after raw last
three_runs source at a b d n m p before after raw first second last e f r s t =
    let place : at + (a + b) ≡ at + a + b = omega arith in
    runs_both source at (a + b) d n before after after raw second last
    (runs_both source at a b n before before after raw first second r (rw e at s)) (rw place (rw f at t))

-- the three parts of a row
module _ (source : ℕ → PixelSource) (at sid : ℕ) (r : Reach) (s : ℕ)
    (told : (j : ℕ) → j < long r → source (at + j) ≡ row_source sid r (Some s) j) where
  pub black_before : (j : ℕ) → j < r.before → own_word (source (at + j)) ≡ Some 0
  black_before j l = grind (arith, nat_tests, told j)

  pub words_within : (i : ℕ) → i < r.words → source (at + r.before + i) ≡ Word sid (s + r.from + i)
  words_within i l = grind (arith, nat_tests, told (r.before + i))

  pub black_after : (i : ℕ) → i < r.after → own_word (source (at + r.before + r.words + i)) ≡ Some 0
  black_after i l = grind (arith, nat_tests, told (r.before + r.words + i))
