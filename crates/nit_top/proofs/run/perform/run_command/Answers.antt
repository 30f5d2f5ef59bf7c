use Rattle.nit_top.proofs.Lemmas.{performed_ends, refl, stopped_ends, true}
use Rattle.nit_top.proofs.run.perform.run_command.Goals as goal

pub returns-in-Err : goal.returns-in-Err
returns-in-Err g c =
    stopped_ends (c.in-Err.ensures.run true) c.ended_before_run.ensures.stop c.ended_before_run.ensures.journal

pub perform_beside-requires-after_bounds : goal.perform_beside-requires-after_bounds
perform_beside-requires-after_bounds g c κs within = (c.in-Ok.ensures.run true).valid.runnable

pub returns-in-Ok : goal.returns-in-Ok
returns-in-Ok g c =
    let r = c.in-Ok.ensures.run true in
    performed_ends (λ s journal files are. refl, λ config. refl) r.asked r.valid c.perform_beside.ensures
