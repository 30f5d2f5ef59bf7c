use Rattle.std.proofs.Common.{length, vec_capacity, ◌≡◌, ◌≤◌}
use Rattle.nit_damage.proofs.Lemmas.{FitsJobs, Point, jobs_to_come, weight}
use Rattle.nit_damage.proofs.cutting.next_cut.Given as goal

abbrev pub invariant-jobs : goal.invariant-jobs
invariant-jobs l = record {
  come : (p : Point) → jobs_to_come l.from l.stack l.initial.jobs.items p ≡ jobs_to_come l.from l.stack l.jobs.items p;
  fits : FitsJobs l.stack l.jobs.items;
  fewer : weight (length l.stack.views) l.jobs.items ≤ weight (length l.stack.views) l.initial.jobs.items;
  capacity : vec_capacity l.jobs ≡ vec_capacity l.initial.jobs;
}

abbrev pub decreases-jobs : goal.decreases-jobs
decreases-jobs l = weight (length l.stack.views) l.jobs.items
