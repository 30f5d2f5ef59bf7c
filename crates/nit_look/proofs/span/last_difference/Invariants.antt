use Rattle.std.proofs.Common.{◌-◌, ◌≡◌, ◌≤◌, ◌<◌, ℕ, length, slice_index}
use Rattle.nit_look.proofs.span.last_difference.Given as goal

abbrev pub invariant-words : goal.invariant-words
invariant-words l = (l.first ≤ l.place) × (l.place < length l.a)
    × ((k : ℕ) → l.place < k → slice_index l.a k ≡ slice_index l.b k)

abbrev pub decreases-words : goal.decreases-words
decreases-words l = l.place - l.first
