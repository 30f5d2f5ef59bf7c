-- What one pixel more does to a repaint that counts from the first pixel on.
use Rattle.nit_paint.proofs.Basics.{IsWordOfSource, PixelSource, Repainted, Sight, is_word_of}
use Rattle.nit_paint.proofs.Basics.{loads_of, nat_tests, seen, times_shown}
use Rattle.std.proofs.Common.{Bool, List, add-one, ap, arith, cond, false, length, not, refl, set}
use Rattle.std.proofs.Common.{true, ℕ, ◌&&◌, ◌+◌, ◌<◌, ◌==◌, ◌≡◌}
use Rattle.nit_paint.proofs.RepaintLemmas.{repainted_one, repainted_same, repainted_union}

one_more : (source : ℕ → PixelSource) (marked : ℕ → Bool) (t i k : ℕ) → times_shown source marked t i (k + 1)
    ≡ times_shown source marked t i k + cond (marked k && is_word_of t i (source k)) 1 0
one_more source marked t i k = ap (times_shown source marked t i) (add-one k)

pub skipped : (source : ℕ → PixelSource) (marked : ℕ → Bool) (k : ℕ) (before after : ℕ → Sight) (raw raw' : List ℕ)
    → marked k ≡ false
    → Repainted source marked k before after raw raw' → Repainted source marked (k + 1) before after raw raw'
skipped source marked k before after raw raw' unmarked r = record {
  loads = r.loads;
  sights = r.sights;
  marked = λ j l h. r.marked j (grind (arith, unmarked, h)) h;
  others = λ j h. r.others j (λ l. h (omega arith));
  counts = λ t i. grind (arith, r.counts t i, one_more source marked t i k, unmarked);
}

-- a marked pixel, whose source was read, is loaded
pub loaded_by : (source : ℕ → PixelSource) (marked : ℕ → Bool) (k w : ℕ) (s : PixelSource) (before mid after : ℕ
    → Sight) (raw raw' : List ℕ) → marked k ≡ true → k < length raw' → s ≡ source k
    → IsWordOfSource mid s w → ((t : ℕ) → after t ≡ seen (mid t) (loads_of s w t))
    → Repainted source marked k before mid raw raw' → Repainted source marked (k + 1) before after raw (set raw' k w)
loaded_by source marked k w s before mid after raw raw' is l read now log r =
    repainted_union _ others (λ j. j == k) marked _ _ _ _ _ _ _ (λ j. grind arith) (λ j. grind (arith, nat_tests, is))
    (skipped source others k before mid raw raw' (grind (arith, nat_tests))
    (repainted_same source source marked others k _ _ _ _ _ _ (λ j m. grind (arith, nat_tests))
    (λ j m h. refl) (λ t. refl) (λ t. refl) r))
    (repainted_one source k w (k + 1) mid after raw' (omega arith) l (rw read at now) (λ t. rw (← read) (log t)))
  where
    others : ℕ → Bool
    others j = marked j && not (j == k)
