use Rattle.std.proofs.Common.{length, ◌-◌}
use Rattle.nit_damage.proofs.Lemmas.{IsSkip}
use Rattle.nit_damage.proofs.cutting.skip_apart.Given as goal

abbrev pub invariant-views : goal.invariant-views
invariant-views l = record {
  skip : IsSkip l.stack l.initial.job l.job;
}

abbrev pub decreases-views : goal.decreases-views
decreases-views l = length l.stack.views - l.job.at
