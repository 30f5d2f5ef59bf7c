use Rattle.std.proofs.Common.{ℕ, ◌≤◌}
use Rattle.nit_labels.proofs.Lemmas.{IsOfRun}
use Rattle.nit_labels.proofs.row.run_start.Given as goal

abbrev pub invariant-columns : goal.invariant-columns
invariant-columns l = record {
  within : l.start ≤ l.x;
  run : (k : ℕ) → l.start ≤ k → k ≤ l.x → IsOfRun l.row l.down l.tall l.x k;
}

abbrev pub decreases-columns : goal.decreases-columns
decreases-columns l = l.start
