use Rattle.std.proofs.Common.{drop, length, take, ◌*◌, ◌++◌, ◌-◌, ◌≡◌, ◌≤◌}
use Rattle.nit_capture.proofs.Lemmas.{flat_map, run_bytes, runs}
use Rattle.nit_capture.proofs.runs.write_runs.Given as goal

abbrev pub invariant-loop-at : goal.invariant-loop-at
invariant-loop-at l = record {
  written : take l.end l.bytes ++ flat_map run_bytes (runs (drop l.at l.words)) ≡ flat_map run_bytes (runs l.words);
  within : l.at ≤ length l.words;
  few : l.end ≤ 4 * l.at;
}

abbrev pub decreases-loop-at : goal.decreases-loop-at
decreases-loop-at l = length l.words - l.at
