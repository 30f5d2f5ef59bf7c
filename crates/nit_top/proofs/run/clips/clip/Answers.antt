use Rattle.nit_top.proofs.Lemmas.{clips_end, stopped_ends}
use Rattle.nit_top.proofs.run.clips.clip.Goals as goal

pub returns-in-Err : goal.returns-in-Err
returns-in-Err g c =
    stopped_ends c.in-Err.ensures c.ended_before_run.ensures.stop c.ended_before_run.ensures.journal

pub perform_clips-requires-clause-runnable : goal.perform_clips-requires-clause-runnable
perform_clips-requires-clause-runnable g c κs within = rw c.deref.ensures.value c.in-Ok.ensures.valid.runnable

pub perform_clips-requires-clause-each : goal.perform_clips-requires-clause-each
perform_clips-requires-clause-each g c κs within = rw c.deref.ensures.value c.in-Ok.ensures.valid.of_command.3

pub returns-in-Ok : goal.returns-in-Ok
returns-in-Ok g c =
    let r = c.in-Ok.ensures in
    clips_end r.asked r.valid (rw c.deref.ensures.value at c.perform_clips.ensures)
