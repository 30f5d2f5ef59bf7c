use Rattle.std.proofs.Common.{length, ◌-◌, ◌≡◌, ◌<◌, ℕ, slice_index}
use Rattle.nit_look.proofs.span.first_difference.Given as goal

abbrev pub invariant-words : goal.invariant-words
invariant-words l = (l.place < length l.a) × ((k : ℕ) → k < l.place → slice_index l.a k ≡ slice_index l.b k)

abbrev pub decreases-words : goal.decreases-words
decreases-words l = length l.a - l.place
