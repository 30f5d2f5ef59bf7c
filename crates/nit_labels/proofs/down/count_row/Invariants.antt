use Rattle.std.proofs.Common.{length, ℕ, ◌<◌, ◌==◌, ◌≡◌, ◌≤◌}
use Rattle.nit_labels.proofs.Lemmas.{counted, slice_index_or}
use Rattle.nit_labels.proofs.down.count_row.Given as goal

abbrev pub invariant-columns : goal.invariant-columns
invariant-columns l = record {
  count : length l.down ≡ length l.initial.down;
  done : (k : ℕ) → k < l.x → slice_index_or l.down k 0
      ≡ counted (slice_index_or l.below k 0 == slice_index_or l.row k 0) (slice_index_or l.initial.down k 0) l.tall;
  ahead : (k : ℕ) → l.x ≤ k → slice_index_or l.down k 0 ≡ slice_index_or l.initial.down k 0;
}
