-- How repainted pixels of a screen go together.
use Rattle.nit_paint.proofs.Basics.{Bare, Black, Contains-append_left, Contains-append_right}
use Rattle.nit_paint.proofs.Basics.{Contains-push, IsAmongLoads, IsWord, IsWordOfSource}
use Rattle.nit_paint.proofs.Basics.{PixelSource, Repainted, Sight, Word, cases_Bool, cases_lt}
use Rattle.nit_paint.proofs.Basics.{eq-eqb, eqb-true, get_or_default, is_word_of, loads_at}
use Rattle.nit_paint.proofs.Basics.{loads_of, nat_tests, or_parts, own_word, seen, seen_none}
use Rattle.nit_paint.proofs.Basics.{seen_twice, sum_by-append, times_shown}
use Rattle.std.proofs.Common.{All, Bool, List, Some, [], arith, cond, false, get_or}
use Rattle.std.proofs.Common.{get_or-set_other, get_or-set_same, inl, inr, length, refl, set}
use Rattle.std.proofs.Common.{slice_index_or, suc, sym, true, zero, ℕ, ◌&&◌, ◌++◌, ◌+◌, ◌<◌, ◌==◌}
use Rattle.std.proofs.Common.{◌||◌, ◌∙◌, ◌≡◌, ◌≤◌}

-- where no marked pixel shows a word of a glass
pub none_shown : (source : ℕ → PixelSource) (d : ℕ → Bool) (w t i n : ℕ)
    → ((k : ℕ) → k < n → d k ≡ true → own_word (source k) ≡ Some w) → times_shown source d t i n ≡ 0
none_shown source d w t i zero own = refl
none_shown source d w t i (suc n) own =
    grind (arith, none_shown source d w t i n (λ k l. own k (omega arith)), own n (omega arith))

pub repainted_none : (source : ℕ → PixelSource) (d : ℕ → Bool) (n : ℕ) (glasses : ℕ → Sight) (raw : List ℕ)
    → ((k : ℕ) → k < n → d k ≡ false)
    → Repainted source d n glasses glasses raw raw
repainted_none source d n glasses raw h = record {
  loads = λ t. [];
  sights = λ t. seen_none (glasses t);
  marked = λ k l m. let unmarked = h k l in cc;
  others = λ k m. refl;
  counts = λ t i. sym (none_shown source d 0 t i n (λ k l m. cc (h k l)));
}

-- a held word and its load stay so
pub since : (before after : ℕ → Sight) (loads : ℕ → List (ℕ × ℕ)) (s : PixelSource) (w : ℕ)
    → ((t : ℕ) → after t ≡ seen (before t) (loads t)) → IsWordOfSource after s w → IsWordOfSource before s w
since before after loads (Word t i) w e h =
    let was = rw (e t) at h in record { fits = was.fits; inked = was.inked; stage = was.stage; told = was.told }
since before after loads other w e h = h

pub among_first : (a b : ℕ → List (ℕ × ℕ)) (s : PixelSource) (w : ℕ) → IsAmongLoads a s w
    → IsAmongLoads (λ t. a t ++ b t) s w
among_first a b (Word t i) w h = Contains-append_left (a t) (b t) (i, w) h
among_first a b other w h = tt

pub among_last : (a b : ℕ → List (ℕ × ℕ)) (s : PixelSource) (w : ℕ) → IsAmongLoads b s w
    → IsAmongLoads (λ t. a t ++ b t) s w
among_last a b (Word t i) w h = Contains-append_right (a t) (b t) (i, w) h
among_last a b other w h = tt

pub among_own : (s : PixelSource) (w : ℕ) → IsAmongLoads (loads_of s w) s w
among_own (Word t i) w = let e : (t == t) ≡ true = eq-eqb t t refl in rw e (Contains-push [] (i, w))
among_own other w = tt

-- two disjoint parts, one after the other
both_shown : (source : ℕ → PixelSource) (d e : ℕ → Bool) (t i n : ℕ) → ((k : ℕ) → k < n → (d k && e k) ≡ false)
    → times_shown source d t i n + times_shown source e t i n ≡ times_shown source (λ k. d k || e k) t i n
both_shown source d e t i zero h = refl
both_shown source d e t i (suc n) h =
    grind (arith, both_shown source d e t i n (λ k l. h k (omega arith)), h n (omega arith))

pub repainted_both : (source : ℕ → PixelSource) (d e : ℕ → Bool) (n : ℕ) (before mid after : ℕ → Sight)
    (raw first last : List ℕ) → ((k : ℕ) → k < n → (d k && e k) ≡ false)
    → Repainted source d n before mid raw first → Repainted source e n mid after first last
    → Repainted source (λ k. d k || e k) n before after raw last
repainted_both source d e n before mid after raw first last apart r s = record {
  loads = λ t. r.loads t ++ s.loads t;
  sights = λ t. rw (s.sights t, r.sights t) (seen_twice (before t) (r.loads t) (s.loads t));
  marked = λ k l h. elim (cases_Bool (e k)) [
    | inl p ↦
        let new = s.marked k l p in
        (since before mid r.loads (source k) _ r.sights new.0, among_last r.loads s.loads (source k) _ new.1)
    | inr p ↦
        let old = r.marked k l (grind arith) in
        rw (s.others k (λ m. p)) (old.0, among_first r.loads s.loads (source k) _ old.1)
  ];
  others = λ k h. s.others k (λ l. (or_parts (d k) (e k) (h l)).1) ∙ r.others k (λ l. (or_parts (d k) (e k) (h l)).0);
  counts = λ t i. sum_by-append (λ x. cond (x.0 == i) 1 0) (r.loads t) (s.loads t)
      ∙ (λ z. r.counts t i z + s.counts t i z) ∙ both_shown source d e t i n apart;
}

-- the same marks, sources and glasses
same_shown : (source source' : ℕ → PixelSource) (d e : ℕ → Bool) (t i n : ℕ) → ((k : ℕ) → k < n → d k ≡ e k)
    → ((k : ℕ) → k < n → d k ≡ true → source k ≡ source' k)
    → times_shown source d t i n ≡ times_shown source' e t i n
same_shown source source' d e t i zero h q = refl
same_shown source source' d e t i (suc n) h q =
    let rest = same_shown source source' d e t i n (λ k l. h k (omega arith)) (λ k l. q k (omega arith)) in
    grind (arith, rest, h n (omega arith), q n (omega arith))

pub repainted_same : (source source' : ℕ → PixelSource) (d e : ℕ → Bool) (n : ℕ) (before before' after after' : ℕ
    → Sight) (raw raw' : List ℕ)
    → ((k : ℕ) → k < n → d k ≡ e k) → ((k : ℕ) → k < n → d k ≡ true → source k ≡ source' k)
    → ((t : ℕ) → before t ≡ before' t) → ((t : ℕ) → after t ≡ after' t)
    → Repainted source d n before after raw raw' → Repainted source' e n before' after' raw raw'
repainted_same source source' d e n before before' after after' raw raw' marks sources old new r =
    let same_before : before ≡ before' = λ i t. old t i in
    let same_after : after ≡ after' = λ i t. new t i in
    rw (← same_before, ← same_after) (record {
      loads = r.loads;
      sights = r.sights;
      marked = λ k l h. let was = marks k l ∙ h in rw (← sources k l was) (r.marked k l was);
      others = λ k h. r.others k (λ l. marks k l ∙ h l);
      counts = λ t i. r.counts t i ∙ same_shown source source' d e t i n marks sources;
    })

-- disjoint parts under the name of their union
pub repainted_union : (source : ℕ → PixelSource) (d e union : ℕ → Bool) (n : ℕ) (before mid after : ℕ → Sight)
    (raw first last : List ℕ) → ((k : ℕ) → (d k && e k) ≡ false) → ((k : ℕ) → (d k || e k) ≡ union k)
    → Repainted source d n before mid raw first → Repainted source e n mid after first last
    → Repainted source union n before after raw last
repainted_union source d e union n before mid after raw first last apart all r s =
    repainted_same source source (λ k. d k || e k) union n before before after after raw last (λ k l. all k)
    (λ k l m. refl) (λ t. refl) (λ t. refl) (repainted_both _ _ _ _ _ _ _ _ _ _ (λ k l. apart k) r s)

-- the same number of pixels in other words
pub other_count : (source : ℕ → PixelSource) (d : ℕ → Bool) (m n : ℕ) (before after : ℕ → Sight) (raw raw' : List ℕ)
    → m ≡ n → Repainted source d m before after raw raw' → Repainted source d n before after raw raw'
other_count source d m n before after raw raw' e r = rw (← e) r

-- the same words of the screen in another list
pub repainted_there : (source : ℕ → PixelSource) (d : ℕ → Bool) (n : ℕ) (before after : ℕ → Sight)
    (raw now other : List ℕ) → ((k : ℕ) → slice_index_or now k 0 ≡ slice_index_or other k 0)
    → Repainted source d n before after raw now → Repainted source d n before after raw other
repainted_there source d n before after raw now other same r = record {
  loads = r.loads;
  sights = r.sights;
  marked = λ k l m. rw (← same k) (r.marked k l m);
  others = λ k out. sym (same k) ∙ r.others k out;
  counts = r.counts;
}

-- one pixel alone
before_it : (source : ℕ → PixelSource) (k t i n : ℕ) → n ≤ k → times_shown source (λ j. j == k) t i n ≡ 0
before_it source k t i n l = none_shown source (λ j. j == k) 0 t i n (λ j m e. absurd (grind (arith, nat_tests)))

one_shown : (source : ℕ → PixelSource) (k t i n : ℕ) → k < n → times_shown source (λ j. j == k) t i n
    ≡ cond (is_word_of t i (source k)) 1 0
one_shown source k t i zero l = absurd (omega arith)
one_shown source k t i (suc n) l = grind (arith, nat_tests, before_it source k t i n, one_shown source k t i n)

pub one_load : (s : PixelSource) (w t i : ℕ) → loads_at i (loads_of s w t) ≡ cond (is_word_of t i s) 1 0
one_load Bare w t i = refl
one_load Black w t i = refl
one_load (Word u j) w t i = grind (arith, nat_tests)

pub repainted_one : (source : ℕ → PixelSource) (k w n : ℕ) (before after : ℕ → Sight) (raw : List ℕ) → k < n
    → k < length raw → IsWordOfSource before (source k) w
    → ((t : ℕ) → after t ≡ seen (before t) (loads_of (source k) w t))
    → Repainted source (λ j. j == k) n before after raw (set raw k w)
repainted_one source k w n before after raw l m h log = record {
  loads = loads_of (source k) w;
  sights = log;
  marked = λ j p q. rw (eqb-true j k q, get_or-set_same raw k w 0 m) (h, among_own (source k) w);
  others = λ j p. grind (arith, nat_tests, p, get_or-set_other raw k j w 0);
  counts = λ t i. one_load (source k) w t i ∙ sym (one_shown source k t i n l);
}

-- all pixels hold words, where they did before
pub repainted_words : (source : ℕ → PixelSource) (d : ℕ → Bool) (n : ℕ) (before after : ℕ → Sight) (raw raw' : List ℕ)
    → length raw' ≡ length raw
    → Repainted source d n before after raw raw' → All IsWord raw → All IsWord raw'
repainted_words source d n before after raw raw' long r fit k x l =
    rw (← get_or_default raw' k 0 x l) (elim (cases_lt k n) [
      | inl m ↦ elim (cases_Bool (d k)) [
        | inl e ↦ held (source k) (r.marked k m e).0
        | inr e ↦ rw (r.others k (λ p. e)) (fit k 0 (omega arith))
      ]
      | inr m ↦ rw (r.others k (λ p. absurd (omega arith))) (fit k 0 (omega arith))
    ])
  where
    held : (s : PixelSource) → IsWordOfSource before s (get_or raw' k 0) → IsWord (get_or raw' k 0)
    held (Word t i) h = h.fits
    held other h = omega arith
