use Rattle.std.proofs.Common.{length, slice_index, ℕ, ◌-◌, ◌<◌, ◌||◌, ◌≡◌, ◌≤◌}
use Rattle.nit_screen.proofs.Lemmas.{AreSkips, is_between, is_filled, numbered}
use Rattle.nit_screen.proofs.screen.free.fill_free.Given as goal

abbrev pub invariant-columns : goal.invariant-columns
invariant-columns l = record {
  row : length l.row ≡ length l.initial.row;
  next : length l.next ≡ length l.initial.next;
  after : l.from ≤ l.x;
  within : l.x ≤ length l.row;
  done : (k : ℕ) → k < l.x
      → slice_index l.row k ≡ numbered (is_between l.from l.to k) l.number (slice_index l.initial.row k);
  ahead : (k : ℕ) → l.x ≤ k → slice_index l.row k ≡ slice_index l.initial.row k;
  skips : AreSkips (λ k. is_filled l.initial.row k || is_between l.from l.to k) l.next;
  still : (k : ℕ) → l.x ≤ k → slice_index l.next k ≡ slice_index l.initial.next k;
}

abbrev pub decreases-columns : goal.decreases-columns
decreases-columns l = length l.row - l.x
