-- Words of which those that pass a test were set to their colours.
use Rattle.std.proofs.Common.{Bool, List, arith, cond, false, get_or, get_or-set_other}
use Rattle.std.proofs.Common.{get_or-set_same, inl, inr, length, length-set, refl, set, sym, true}
use Rattle.std.proofs.Common.{zero-add, ℕ, ◌+◌, ◌<◌, ◌||◌, ◌∙◌, ◌≡◌, ◌≤◌}
use Rattle.nit_word.proofs.Basics.{cases_eq, enumerate_from, ext_get_or, get_or-enumerate_from}
use Rattle.nit_word.proofs.Basics.{get_or-map, is_between, length-enumerate_from, length-map}
use Rattle.nit_word.proofs.Basics.{nat_tests, set_where}

pub set_long : (p : ℕ → Bool) (c : ℕ → ℕ) (words : List ℕ) → length (set_where p c words) ≡ length words
set_long p c words = length-map (enumerate_from 0 words) (λ e. cond (p e.0) (c e.0) e.1) ∙ length-enumerate_from 0 words

pub word_at : (p : ℕ → Bool) (c : ℕ → ℕ) (words : List ℕ) (k : ℕ) → k < length words
    → get_or (set_where p c words) k 0 ≡ cond (p k) (c k) (get_or words k 0)
word_at p c words k inside =
    let numbered : k < length (enumerate_from 0 words) = omega (arith, length-enumerate_from 0 words) in
    rw (get_or-map (λ e. cond (p e.0) (c e.0) e.1) (enumerate_from 0 words) k (0, 0) 0 numbered)
    (rw (get_or-enumerate_from 0 words k (0, 0) inside, zero-add k))

-- a list whose words are such
pub are_set : (p : ℕ → Bool) (c : ℕ → ℕ) (words now : List ℕ) → length now ≡ length words
    → ((k : ℕ) → k < length words → get_or now k 0 ≡ cond (p k) (c k) (get_or words k 0)) → now ≡ set_where p c words
are_set p c words now same each =
    ext_get_or 0 now (set_where p c words) (same ∙ sym (set_long p c words))
    (λ k inside. let within : k < length words = omega arith in each k within ∙ sym (word_at p c words k within))

pub none_set : (p : ℕ → Bool) (c : ℕ → ℕ) (words : List ℕ) → ((k : ℕ) → p k ≡ false) → set_where p c words ≡ words
none_set p c words none = sym (are_set p c words words refl (λ k inside. rw (none k)))

pub same_set : (p q : ℕ → Bool) (c : ℕ → ℕ) (words : List ℕ) → ((k : ℕ) → p k ≡ q k)
    → set_where p c words ≡ set_where q c words
same_set p q c words same =
    are_set q c words (set_where p c words) (set_long p c words) (λ k inside. rw (word_at p c words k inside, same k))

-- colours that are the same where words are set
pub same_colours : (p : ℕ → Bool) (c d : ℕ → ℕ) (words : List ℕ) → ((k : ℕ) → p k ≡ true → c k ≡ d k)
    → set_where p c words ≡ set_where p d words
same_colours p c d words same = are_set p d words (set_where p c words) (set_long p c words)
    (λ k inside. grind (arith, word_at p c words k inside, same k))

-- the words of a second test too
pub both_set : (p q r : ℕ → Bool) (c : ℕ → ℕ) (words : List ℕ) → ((k : ℕ) → (p k || q k) ≡ r k)
    → set_where q c (set_where p c words) ≡ set_where r c words
both_set p q r c words both =
    are_set r c words (set_where q c (set_where p c words)) (set_long q c (set_where p c words) ∙ set_long p c words)
    (λ k inside. let long = set_long p c words in rw (word_at q c (set_where p c words) k (omega arith))
    (grind (arith, word_at p c words k inside, both k)))

-- ---- the words from one number to before another

pub none_between : (first : ℕ) (c : ℕ → ℕ) (words : List ℕ) → words ≡ set_where (is_between first first) c words
none_between first c words = sym (none_set (is_between first first) c words (λ k. grind (arith, nat_tests)))

-- the next word too
pub next_between : (first i w : ℕ) (c : ℕ → ℕ) (words : List ℕ) → first ≤ i → w ≡ c i
    → set (set_where (is_between first i) c words) i w ≡ set_where (is_between first (i + 1)) c words
next_between first i w c words order is =
    let before = set_where (is_between first i) c words in
    let long = set_long (is_between first i) c words in
    are_set (is_between first (i + 1)) c words (set before i w) (length-set before i w ∙ long)
    (λ k inside. elim (cases_eq k i) [
      | inl here ↦ rw here (rw (get_or-set_same before i w 0 (omega arith)) (grind (arith, nat_tests)))
      | inr other ↦ rw (get_or-set_other before i k w 0 other, word_at (is_between first i) c words k inside)
          (grind (arith, nat_tests))
    ])
