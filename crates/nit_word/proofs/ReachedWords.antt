-- Words that are kept as far as they were reached, and are 0 from there on.
use Rattle.std.proofs.Common.{Bool, List, ap, append-nil, append_assoc, arith, false, inl, inr}
use Rattle.std.proofs.Common.{length, length-set, min, refl, replicate, slice_set, sym, take, true}
use Rattle.std.proofs.Common.{ℕ, ◌++◌, ◌+◌, ◌-◌, ◌<◌, ◌∙◌, ◌≡◌, ◌≤◌}
use Rattle.nit_word.proofs.Basics.{cases_lt, filled_up, get_or-append_right, get_or_append_left}
use Rattle.nit_word.proofs.Basics.{get_or_past, is_between, length-append, nat_tests}
use Rattle.nit_word.proofs.Basics.{set-append_left, set_where, slice_index, take_all, take_at}
use Rattle.nit_word.specs.Zeros.{zeros}
use Rattle.nit_word.proofs.UpdateLemmas.{are_set, none_set, set_long, word_at}
use Rattle.nit_word.proofs.SideBySide.{some_copied}
use Rattle.nit_word.proofs.ZeroLemmas.{length-zeros, zero_at, zeros_joined}

-- ---- their number, and the word of each number

pub filled_long : (size : ℕ) (words : List ℕ) → length words ≤ size → length (filled_up size words) ≡ size
filled_long size words few = rw (length-append, length-zeros) (omega arith)

pub filled_at : (size : ℕ) (words : List ℕ) (i : ℕ) → slice_index (filled_up size words) i ≡ slice_index words i
filled_at size words i = elim (cases_lt i (length words)) [
  | inl reached ↦ get_or_append_left words (zeros (size - length words)) 0 i reached
  | inr behind ↦
      rw (get_or_past words i 0 behind)
      (get_or-append_right words (zeros (size - length words)) (length words) i 0 refl behind ∙ zero_at _ _)
]

pub whole_long : (size : ℕ) (words whole : List ℕ) → filled_up size words ≡ whole → length words ≤ size
    → length whole ≡ size
whole_long size words whole is few = rw is at (filled_long size words few)

pub all_reached : (words : List ℕ) → filled_up (length words) words ≡ words
unfolding zeros
all_reached words = let none : length words - length words ≡ 0 = omega arith in rw (none, append-nil)

-- ---- where more are reached

pub reached_long : (count : ℕ) (words more : List ℕ) → more ≡ words ++ zeros (count - length words)
    → length more ≡ length words + (count - length words)
reached_long count words more is = rw (is, length-append, length-zeros)

-- the words stay
pub same_filled : (size count : ℕ) (words more : List ℕ) → count ≤ size → length words ≤ size
    → more ≡ words ++ zeros (count - length words) → filled_up size more ≡ filled_up size words
same_filled size count words more room few is =
    rw (is, append_assoc, zeros_joined, length-append, length-zeros) (ap (λ n. words ++ zeros n) (omega arith))

-- words that are set as far as they are reached, where those after are set to 0 if at all
set_filled : (p : ℕ → Bool) (c : ℕ → ℕ) (size : ℕ) (words : List ℕ) → length words ≤ size
    → ((k : ℕ) → length words ≤ k → p k ≡ true → c k ≡ 0)
    → filled_up size (set_where p c words) ≡ set_where p c (filled_up size words)
set_filled p c size words few none =
    let long = set_long p c words in
    are_set p c (filled_up size words) (filled_up size (set_where p c words))
    (filled_long size (set_where p c words) (omega (arith, long)) ∙ sym (filled_long size words few))
    (λ k inside. rw (filled_at size (set_where p c words) k, filled_at size words k) (elim (cases_lt k (length words)) [
      | inl reached ↦ word_at p c words k reached
      | inr past ↦ rw (get_or_past words k 0 past, get_or_past (set_where p c words) k 0 (omega (arith, long)))
          (grind (arith, none k past))
    ]))

-- what is kept of the words where some were set after enough were reached
pub record IsSetIn (size : ℕ) (p : ℕ → Bool) (c : ℕ → ℕ) (words back : List ℕ) : Type 0 where
  pub few : length back ≤ size
  pub all : filled_up size back ≡ set_where p c words

pub set_in : (from to : ℕ) (c : ℕ → ℕ) (size n : ℕ) (whole words more now rest : List ℕ) → filled_up size words ≡ whole
    → length words ≤ size → to ≤ length whole → more ≡ words ++ zeros (to - length words)
    → now ≡ set_where (is_between from to) c more → n ≡ length more
    → IsSetIn size (is_between from to) c whole (take n (now ++ rest))
set_in from to c size n whole words more now rest all few room reached is counted =
    let size_is = whole_long size words whole all few in
    let enough = reached_long to words more reached in
    let long : length now ≡ n = rw is (set_long (is_between from to) c more ∙ sym counted) in
    rw (take_at now rest n long) (record {
      few = omega arith;
      all = rw is (set_filled (is_between from to) c size more (omega arith) (λ k behind set. grind (arith, nat_tests))
          ∙ ap (set_where (is_between from to) c) (same_filled size to words more (omega arith) few reached ∙ all));
    })

-- what is kept of them where those from one number to before another are 0
pub wiped_in : (from to size : ℕ) (whole words back : List ℕ) → filled_up size words ≡ whole → length words ≤ size
    → back ≡ set_where (is_between from to) (λ n. 0) words → IsSetIn size (is_between from to) (λ n. 0) whole back
wiped_in from to size whole words back all few is =
    let long = set_long (is_between from to) (λ n. 0) words in
    rw is (record {
      few = omega (arith, long);
      all = rw (set_filled (is_between from to) (λ n. 0) size words few (λ k behind set. refl), all);
    })

-- words that are set up to the last one
pub set_within : (from to : ℕ) (words : List ℕ) → set_where (is_between from (min to (length words))) (λ n. 0) words
    ≡ set_where (is_between from to) (λ n. 0) words
set_within from to words =
    let end : ℕ = min to (length words) in
    are_set (is_between from to) (λ n. 0) words (set_where (is_between from end) (λ n. 0) words)
    (set_long (is_between from end) (λ n. 0) words)
    (λ k inside. rw (word_at (is_between from end) (λ n. 0) words k inside) (grind (arith, nat_tests)))

-- the kept ones, after those up to the last one were set
pub wiped : (from to n end : ℕ) (words there now rest : List ℕ) → n ≡ length words → end ≡ min to n → there ≡ words
    → now ≡ set_where (is_between from end) (λ n. 0) there
    → take n (now ++ rest) ≡ set_where (is_between from to) (λ n. 0) words
wiped from to n end words there now rest counted least same is =
    let long : length now ≡ n = rw (is, same, counted) (set_long (is_between from end) (λ n. 0) words) in
    rw (take_at now rest n long, is, same, least, counted) (set_within from to words)

-- where none of them is to be set
pub none_wiped : (from to n end : ℕ) (words : List ℕ) → n ≡ length words → end ≡ min to n → end ≤ from
    → words ≡ set_where (is_between from to) (λ n. 0) words
none_wiped from to n end words counted least none =
    sym (none_set (is_between from (min to (length words))) (λ n. 0) words (λ k. grind (arith, nat_tests)))
    ∙ set_within from to words

-- no word from the last one on is set
pub none_past : (from to k : ℕ) → to ≤ k → is_between from to k ≡ false
none_past from to k past = grind (arith, nat_tests)

-- what is kept of them where some were copied, as far as the others are kept, and those after are 0
pub copied_in : (from to end n size : ℕ) (others whole words more now rest back : List ℕ) → filled_up size words ≡ whole
    → length words ≤ size → from ≤ to → to ≤ length whole → from ≤ length others → end ≡ min to (length others)
    → more ≡ words ++ zeros (end - length words) → now ≡ set_where (is_between from end) (slice_index others) more
    → n ≡ length more → back ≡ set_where (is_between end to) (λ n. 0) (take n (now ++ rest))
    → IsSetIn size (is_between from to) (slice_index others) whole back
copied_in from to end n size others whole words more now rest back all few order room known least reached is counted
    last =
    let first = set_in from end (slice_index others) size n whole words more now rest all few (omega arith) reached is
    counted in
    let both = wiped_in end to size _ _ back first.all first.few last in
    record { few = both.few; all = rw (both.all, least) (some_copied from to others whole order known) }

-- one word that is set
pub one_in : (size i w : ℕ) (whole words more : List ℕ) → filled_up size words ≡ whole → length words ≤ size
    → i < length whole → more ≡ words ++ zeros (i + 1 - length words)
    → (length (slice_set more i w) ≤ size) × (filled_up size (slice_set more i w) ≡ slice_set whole i w)
one_in size i w whole words more all few room reached =
    let size_is = whole_long size words whole all few in
    let enough = reached_long (i + 1) words more reached in (
      rw (length-set more i w) (omega arith),
      rw (length-set more i w, ← set-append_left more (zeros (size - length more)) i w (omega arith))
          (rw (same_filled size (i + 1) words more (omega arith) few reached, all)),
    )

-- enough are reached, or too few
pub none_more : (count : ℕ) (words : List ℕ) → count ≤ length words → words ≡ words ++ zeros (count - length words)
unfolding zeros
none_more count words enough = let none : count - length words ≡ 0 = omega arith in rw (none, append-nil)

pub some_more : (count : ℕ) (words : List ℕ) → length words ≤ count
    → take count words ++ replicate (count - length words) 0 ≡ words ++ zeros (count - length words)
unfolding zeros
some_more count words few = rw (take_all count words few)
