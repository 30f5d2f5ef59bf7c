-- Words side by side that were set.
use Rattle.std.proofs.Common.{List, ap, arith, cond, drop, get_or, length, min, replicate, take}
use Rattle.std.proofs.Common.{true, ℕ, ◌%◌, ◌++◌, ◌+◌, ◌-◌, ◌<◌, ◌==◌, ◌∙◌, ◌≡◌, ◌≢◌, ◌≤◌}
use Rattle.nit_word.proofs.Basics.{get_or-drop, get_or-replicate, get_or-take, get_or_past, in_turn}
use Rattle.nit_word.proofs.Basics.{is_between, length-drop, length-replicate, length-take-le}
use Rattle.nit_word.proofs.Basics.{nat_tests, places, set_where, slice_index}
use borrow.Rule.Slice.PartMut.{mid_of, put_mid}
use Rattle.nit_word.proofs.UpdateLemmas.{are_set, both_set, same_colours, set_long, word_at}

pub put_long : (from n : ℕ) (words part : List ℕ) → from + n ≤ length words → length part ≡ n
    → length (put_mid from n words part) ≡ length words
put_long from n words part room long = grind (arith, places)

pub at_place : (from n : ℕ) (c : ℕ → ℕ) (words part : List ℕ) (k : ℕ) → from + n ≤ length words → length part ≡ n
    → ((i : ℕ) → i < n → get_or part i 0 ≡ c (from + i))
    → get_or (put_mid from n words part) k 0 ≡ cond (is_between from (from + n) k) (c k) (get_or words k 0)
at_place from n c words part k room long each = grind (arith, places, nat_tests, each (k - from))

part_set : (from to : ℕ) (c : ℕ → ℕ) (words part : List ℕ) → from ≤ to → to ≤ length words → length part ≡ to - from
    → ((i : ℕ) → i < to - from → get_or part i 0 ≡ c (from + i))
    → put_mid from (to - from) words part ≡ set_where (is_between from to) c words
part_set from to c words part order room long each =
    are_set (is_between from to) c words _ (put_long from (to - from) words part (omega arith) long)
    (λ k inside. grind (arith, nat_tests, at_place from (to - from) c words part k (omega arith) long each))

-- the part of words from one number to before another
mid_long : (from n : ℕ) (words : List ℕ) → from + n ≤ length words → length (mid_of from n words) ≡ n
mid_long from n words room = length-take-le n (drop from words) (omega (arith, length-drop from words))

pub filled : (from to w : ℕ) (words part : List ℕ) → from ≤ to → to ≤ length words
    → part ≡ replicate (length (mid_of from (to - from) words)) w
    → put_mid from (to - from) words part ≡ set_where (is_between from to) (λ n. w) words
filled from to w words part order room is =
    let all = rw (mid_long from (to - from) words (omega arith)) at is in
    part_set from to (λ k. w) words part order room (rw all (length-replicate (to - from) w))
    (λ i inside. rw all (get_or-replicate (to - from) i w 0 inside))

-- whose turn it is, by the number of the place
pub turn_there : (from c d i : ℕ) → in_turn 0 c d (i - from) ≡ in_turn from c d i
turn_there from c d i = ap (λ (m : ℕ). cond (m % 2 == 0) c d) (omega arith)

pub alternated : (from to c d : ℕ) (words part : List ℕ) → from ≤ to → to ≤ length words
    → part ≡ set_where (is_between 0 (length (mid_of from (to - from) words))) (in_turn 0 c d)
    (mid_of from (to - from) words)
    → put_mid from (to - from) words part ≡ set_where (is_between from to) (in_turn from c d) words
alternated from to c d words part order room is =
    let mid : List ℕ = mid_of from (to - from) words in
    let long : length mid ≡ to - from = mid_long from (to - from) words (omega arith) in
    part_set from to (in_turn from c d) words part order room
    (rw is (set_long (is_between 0 (length mid)) (in_turn 0 c d) mid ∙ long)) (λ i inside.
    let some : is_between 0 (length mid) i ≡ true = grind (arith, nat_tests, long) in
    rw (is, word_at (is_between 0 (length mid)) (in_turn 0 c d) mid i (omega (arith, long)), some)
    (ap (λ (m : ℕ). cond (m % 2 == 0) c d) (omega arith)))

pub copied : (from to : ℕ) (others words part : List ℕ) → from ≤ to → to ≤ length words → to ≤ length others
    → part ≡ take (to - from) (drop from others)
    → put_mid from (to - from) words part ≡ set_where (is_between from to) (slice_index others) words
copied from to others words part order room known is =
    part_set from to (slice_index others) words part order room (grind (arith, places, is))
    (λ i inside. rw is (get_or-take (to - from) (drop from others) i 0 inside ∙ get_or-drop from others i 0))

-- the others have none of the words, or some of them
pub none_copied : (from to : ℕ) (others words : List ℕ) → length others ≤ from
    → set_where (is_between from to) (λ n. 0) words ≡ set_where (is_between from to) (slice_index others) words
none_copied from to others words short = same_colours (is_between from to) (λ n. 0) (slice_index others) words
    (λ k inside. grind (arith, nat_tests, get_or_past others k 0))

pub some_copied : (from to : ℕ) (others words : List ℕ) → from ≤ to → from ≤ length others
    → set_where (is_between (min to (length others)) to) (λ n. 0)
    (set_where (is_between from (min to (length others))) (slice_index others) words)
    ≡ set_where (is_between from to) (slice_index others) words
some_copied from to others words order known =
    let end : ℕ = min to (length others) in
    same_colours (is_between end to) (λ n. 0) (slice_index others)
    (set_where (is_between from end) (slice_index others) words)
    (λ k inside. grind (arith, nat_tests, get_or_past others k 0))
    ∙ both_set (is_between from end) (is_between end to) (is_between from to) (slice_index others) words
    (λ k. grind (arith, nat_tests))

-- a row of the words from one number on, and of 0 after the last of them
pub row_read : (from known : ℕ) (words row part now : List ℕ) → known ≡ min (length row) (length words - from)
    → from < length words → part ≡ take (from + known - from) (drop from words)
    → now ≡ set_where (is_between known (length row)) (λ n. 0) (part ++ drop known row) → (j : ℕ) → j < length row
    → get_or now j 0 ≡ get_or words (from + j) 0
row_read from known words row part now least some is all j inside =
    let whole : length (part ++ drop known row) ≡ length row = grind (arith, places, is) in
    rw (all, word_at (is_between known (length row)) (λ n. 0) (part ++ drop known row) j (omega arith))
    (grind (arith, places, nat_tests, is, get_or_past words (from + j) 0))

-- whose turn it is
pub first_turn : (c d i : ℕ) → i % 2 ≡ 0 → c ≡ in_turn 0 c d i
first_turn c d i even = grind (arith, nat_tests)

pub second_turn : (c d i : ℕ) → i % 2 ≢ 0 → d ≡ in_turn 0 c d i
second_turn c d i odd = grind (arith, nat_tests)
