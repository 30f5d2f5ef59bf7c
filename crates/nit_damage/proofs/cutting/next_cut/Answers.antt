use Rattle.nit_damage.proofs.Lemmas.{last_job}
use Rattle.nit_damage.proofs.cutting.next_cut.Goals as goal

pub cut_next-piece-requires-clause-job : goal.cut_next-piece-requires-clause-job
cut_next-piece-requires-clause-job c =
    last_job c.args.stack.now c.pop.new.self.items c.in-Some.job
    (rw c.in-Some.ensures.items at c.jobs.invariant.fits)
