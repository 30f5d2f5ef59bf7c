use Rattle.std.proofs.Common.{slice_index, ℕ, ◌-◌, ◌<◌, ◌≡◌, ◌≤◌}
use Rattle.nit_overlay.proofs.mapped.same_number.Given as goal

abbrev pub invariant-pixels : goal.invariant-pixels
invariant-pixels l = record {
  after : l.at < l.k;
  within : l.k ≤ l.end;
  same : (j : ℕ) → l.at ≤ j → j < l.k → slice_index l.map j ≡ slice_index l.map l.at;
}

abbrev pub decreases-pixels : goal.decreases-pixels
decreases-pixels l = l.end - l.k
