-- A row into which some columns were copied.
use Rattle.nit_look.proofs.Basics.{Bool, Differs, IsMerged, List, Span, Spans, arith, cases_eq}
use Rattle.nit_look.proofs.Basics.{cond, drop, ext_get_or, inl, inr, is_in_span, length, nat_tests}
use Rattle.nit_look.proofs.Basics.{places, refl, take}
use Rattle.std.proofs.Common.{ltb, rules, slice_index, ℕ, ◌+◌, ◌-◌, ◌<◌, ◌≡◌, ◌≤◌}
use borrow.Rule.Slice.PartMut.{put_mid}

-- the word of a list of which another was made, where the test is known
pub by_test : (test : ℕ → Bool) (a b merged : List ℕ) (k : ℕ) (there : Bool) → IsMerged test a b merged → test k ≡ there
    → slice_index merged k ≡ cond there (slice_index a k) (slice_index b k)
by_test test a b merged k there is known = rw known at (is k)

pub row_merged : (now out part : List ℕ) (from to wide : ℕ) → wide ≡ to - from → from ≤ to → to ≤ length now
    → length out ≡ length now → part ≡ take wide (drop from now)
    → IsMerged (is_in_span from to) now out (put_mid from wide out part)
row_merged now out part from to wide so order fits long is k = grind (arith, places, nat_tests, is)

-- a row into which the part that differs was copied
pub part_copied : (now out part : List ℕ) (s : Span) → length out ≡ length now → s.first ≤ s.last → s.last < length now
    → Spans now out s → part ≡ take (s.last + 1 - s.first) (drop s.first now)
    → put_mid s.first (s.last + 1 - s.first) out part ≡ now
part_copied now out part s same order fits spans is =
    let merged = row_merged now out part s.first (s.last + 1) _ refl (omega arith) (omega arith) same is in
    ext_get_or 0 _ now (search (rules, places, is)) (λ k lt. elim (cases_eq (slice_index now k) (slice_index out k)) [
      | inl same ↦ grind (arith, merged k)
      | inr differs ↦ let at = spans.held k differs in grind (arith, nat_tests, merged k)
    ])

-- the word at a place of some columns
pub word_in : (a : List ℕ) (from wide j : ℕ)
    → slice_index (take wide (drop from a)) j ≡ cond (ltb j wide) (slice_index a (from + j)) 0
word_in a from wide j = grind (arith, places, nat_tests)

-- a place at which columns differ, in the rows that they are of
pub differs_in : (a b : List ℕ) (from wide j : ℕ) → Differs (take wide (drop from a)) (take wide (drop from b)) j
    → (j < wide) × Differs a b (from + j)
differs_in a b from wide j differs = grind (arith, nat_tests, word_in a from wide j, word_in b from wide j)

pub span_shifted : (now out new : List ℕ) (from to wide : ℕ) → wide ≡ to - from → from ≤ to
    → IsMerged (is_in_span from to) now out new → (s : Span)
    → Spans (take wide (drop from now)) (take wide (drop from out)) s
    → Spans new out (record { first = from + s.first; last = from + s.last })
span_shifted now out new from to wide so order is s spans = record {
  first = let at = differs_in now out from wide s.first spans.first in grind (arith, nat_tests, is (from + s.first));
  last = let at = differs_in now out from wide s.last spans.last in grind (arith, nat_tests, is (from + s.last));
  held = λ k differs. grind (
    arith,
    nat_tests,
    is k,
    spans.held (k - from),
    word_in now from wide (k - from),
    word_in out from wide (k - from),
  );
}
