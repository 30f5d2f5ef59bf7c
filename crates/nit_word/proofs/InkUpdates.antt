-- Words that stay 0 or of some colours where some are set.
use Rattle.std.proofs.Common.{All, Bool, List, [], arith, get_or, inl, inr, length, refl, true, ℕ}
use Rattle.std.proofs.Common.{◌<◌, ◌≡◌}
use Rattle.nit_word.proofs.Basics.{AreInkedBetween, Colours, Ink, IsOfColours, Sight, Stages}
use Rattle.nit_word.proofs.Basics.{cases_lt, cond_both, filled_up, get_or_default, get_or_past}
use Rattle.nit_word.proofs.Basics.{inked_sight, is_between, nat_tests, set_where, slice_index}
use Rattle.nit_word.proofs.Basics.{with_words, zeros}
use Rattle.nit_word.proofs.ReachedWords.{filled_at}
use Rattle.nit_word.proofs.UpdateLemmas.{set_long, word_at}
use Rattle.nit_word.proofs.ZeroLemmas.{zero_inked}

all_inked : (ink : List ℕ) (p : ℕ → Bool) (c : ℕ → ℕ) (words : List ℕ) → ((k : ℕ) → p k ≡ true → IsOfColours ink (c k))
    → All (IsOfColours ink) words → All (IsOfColours ink) (set_where p c words)
all_inked ink p c words new old k d inside =
    let within : k < length words = omega (arith, set_long p c words) in
    rw (get_or_default (set_where p c words) k d 0 inside, word_at p c words k within)
    (cond_both (p k) (c k) (get_or words k 0) (IsOfColours ink) (new k) (λ other. old k 0 within))

-- words of which those from one place to before another are set, each to one of the colours
pub between_inked : (ink : List ℕ) (from to : ℕ) (c : ℕ → ℕ) (words now : List ℕ)
    → AreInkedBetween (Colours ink) from to c → All (IsOfColours ink) words
    → now ≡ set_where (is_between from to) c words → All (IsOfColours ink) now
between_inked ink from to c words now new old is =
    rw is (all_inked ink (is_between from to) c words
    (λ k inside. new k (grind (arith, nat_tests)) (grind (arith, nat_tests))) old)

-- a word after the last one is 0
pub at_any : (ink others : List ℕ) (k : ℕ) → All (IsOfColours ink) others → IsOfColours ink (get_or others k 0)
at_any ink others k all = elim (cases_lt k (length others)) [
  | inl inside ↦ all k 0 inside
  | inr behind ↦ rw (get_or_past others k 0 behind) refl
]

pub copied_inked : (ink : List ℕ) (from to : ℕ) (others words now : List ℕ) → All (IsOfColours ink) others
    → All (IsOfColours ink) words → now ≡ set_where (is_between from to) (slice_index others) words
    → All (IsOfColours ink) now
copied_inked ink from to others words now new old is =
    rw is (all_inked ink (is_between from to) (slice_index others) words (λ k inside. at_any ink others k new) old)

pub zeros_inked : (ink : List ℕ) (n : ℕ) (now : List ℕ) → now ≡ zeros n → All (IsOfColours ink) now
zeros_inked ink n now is =
    rw is (λ k d inside. rw (get_or_default (zeros n) k d 0 inside) (zero_inked (Colours ink) 0 n k))

-- the words that were reached are among all
pub reached_inked : (ink : List ℕ) (size : ℕ) (reached words : List ℕ) → words ≡ filled_up size reached
    → All (IsOfColours ink) words → All (IsOfColours ink) reached
reached_inked ink size reached words is all k d inside =
    rw (get_or_default reached k d 0 inside, ← filled_at size reached k, ← is) (at_any ink words k all)

-- the sight of the glass after words were set
pub sight_set : (p : ℕ → Bool) (c : ℕ → ℕ) (owner : ℕ) (words now ink : List ℕ) (g : Sight)
    → inked_sight owner words ink ≡ g → now ≡ set_where p c words
    → inked_sight owner now ink ≡ with_words (set_where p c) g
sight_set p c owner words now ink g view is = rw (← view, is, set_long p c words)

-- the colours of an ink that has colours alone
abbrev pub colours_in : Ink → List ℕ
colours_in (Colours colours) = colours
colours_in (Stages stages) = []
