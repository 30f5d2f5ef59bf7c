-- A row of which the words below a place are changed by a function, and the others are as they were.
use Rattle.std.proofs.Common.{All, List, ap, append-nil, append_assoc, arith, drop, get_or, length}
use Rattle.std.proofs.Common.{map, slice_set, take, take-add, ℕ, ◌++◌, ◌+◌, ◌<◌, ◌∙◌, ◌≡◌, ◌≤◌}
use Rattle.nit_word.proofs.Basics.{All-drop, drop-drop, drop_all, drop_at, get_or_default}
use Rattle.nit_word.proofs.Basics.{length-chunk, length-map, length-take-le, map-append}
use Rattle.nit_word.proofs.Basics.{map_over_more, put_chunk_is, take_all, take_at}
use lib.Lanes.{chunk, put_chunk}

pub record MappedTo (f : ℕ → ℕ) (old : List ℕ) (at : ℕ) (now : List ℕ) : Type 0 where
  pub inside : at ≤ length old
  pub words : now ≡ map f (take at old) ++ drop at old

module _ (f : ℕ → ℕ) (old now : List ℕ) (at : ℕ) (far : MappedTo f old at now) where
  -- what is done, and what is left
  done_long : length (map f (take at old)) ≡ at
  done_long = length-map (take at old) f ∙ length-take-le at old far.inside

  done_is : take at now ≡ map f (take at old)
  done_is = rw far.words (take_at (map f (take at old)) (drop at old) at done_long)

  rest_is : drop at now ≡ drop at old
  rest_is = rw far.words (drop_at (map f (take at old)) (drop at old) at done_long)

-- what holds of every word holds of those that are left
pub rest_all : (P : ℕ → Type 0) (f : ℕ → ℕ) (old now : List ℕ) (at : ℕ) → MappedTo f old at now → All P old
    → All P (drop at now)
rest_all P f old now at far all = rw (rest_is f old now at far) (All-drop P at old all)

-- the next n words too
pub more_mapped : (f : ℕ → ℕ) (old now part : List ℕ) (at n : ℕ) → MappedTo f old at now → at + n ≤ length old
    → part ≡ map f (take n (drop at now))
    → MappedTo f old (at + n) (take at now ++ (part ++ drop n (drop at now)))
more_mapped f old now part at n far room is = record {
  inside = room;
  words = rw (is, done_is f old now at far, rest_is f old now at far)
      (rw (take-add at n old, map-append, append_assoc, drop-drop n at old));
}

-- the next word too
pub word_mapped : (f : ℕ → ℕ) (old now : List ℕ) (at w : ℕ) → MappedTo f old at now → at < length old → at < length now
    → w ≡ f (get_or now at 0)
    → MappedTo f old (at + 1) (slice_set now at w)
word_mapped f old now at w far room room_now is = record {
  inside = omega arith;
  words = ap (slice_set now at) is
      ∙ map_over_more f old now at (get_or now at 0) room far.words
      (get_or_default now at 0 (get_or now at 0) room_now);
}

-- the next block too
pub block_mapped : (f : ℕ → ℕ) (old now block : List ℕ) (at n : ℕ) → MappedTo f old at now → length now ≡ length old
    → at + n ≤ length old
    → block ≡ map f (chunk at n now) → MappedTo f old (at + n) (put_chunk at now block)
block_mapped f old now block at n far long room is =
    let block_long : length block ≡ n = rw is (length-map (chunk at n now) f ∙ length-chunk at n now (omega arith)) in
    rw (put_chunk_is at now block (omega arith), block_long) (more_mapped f old now block at n far room is)

-- no word is left
pub all_mapped : (f : ℕ → ℕ) (old now : List ℕ) (at : ℕ) → MappedTo f old at now → length old ≤ at → now ≡ map f old
all_mapped f old now at far done = rw (far.words, take_all at old done, drop_all at old done, append-nil)
