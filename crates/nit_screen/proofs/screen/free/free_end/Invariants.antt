use Rattle.std.proofs.Common.{slice_index, ℕ, ◌-◌, ◌<◌, ◌≡◌, ◌≤◌}
use Rattle.nit_screen.proofs.Basics.{no_slot}
use Rattle.nit_screen.proofs.screen.free.free_end.Given as goal

abbrev pub invariant-columns : goal.invariant-columns
invariant-columns l = record {
  after : l.x < l.end;
  within : l.end ≤ l.to;
  free : (k : ℕ) → l.x ≤ k → k < l.end → slice_index l.row k ≡ no_slot;
}

abbrev pub decreases-columns : goal.decreases-columns
decreases-columns l = l.to - l.end
