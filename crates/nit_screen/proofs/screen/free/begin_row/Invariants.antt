use Rattle.std.proofs.Common.{length, slice_index, ℕ, ◌<◌, ◌≡◌}
use Rattle.nit_screen.proofs.screen.free.begin_row.Given as goal

abbrev pub invariant-columns : goal.invariant-columns
invariant-columns l = record {
  count : length l.next ≡ length l.initial.next;
  done : (k : ℕ) → k < l.x → slice_index l.next k ≡ k;
}
