use Rattle.nit_top.proofs.Lemmas.{Stop, ap, film_ends, outside_ends, stopped_ends, ◌∙◌}
use Rattle.nit_top.proofs.run.capture.capture.Goals as goal

pub returns-in-Err : goal.returns-in-Err
returns-in-Err g c =
    stopped_ends (c.in-Err.ensures.film c.args.region) c.ended_before_run.ensures.stop
    c.ended_before_run.ensures.journal

pub returns-then-is_outside : goal.returns-then-is_outside
returns-then-is_outside g c =
    let r = c.in-Ok.ensures.film c.args.region in
    outside_ends r.asked r.valid (rw (← c.run.view_is, ← c.is_outside.ensures) c.if-is_outside.true)
    (ap (λ (stop : Stop). stop.end) c.ended_before_run-then-is_outside.ensures.stop ∙ c.nowhere.ensures.0)
    c.ended_before_run-then-is_outside.ensures.journal

pub returns : goal.returns
returns g c =
    let r = c.in-Ok.ensures.film c.args.region in
    film_ends r.asked r.valid (rw (← c.run.view_is, ← c.is_outside.ensures) c.if-is_outside.false)
    (rw (← c.run.view_is) c.perform_filmed.ensures)

pub perform_filmed-requires-clause-runnable : goal.perform_filmed-requires-clause-runnable
perform_filmed-requires-clause-runnable g c κs within =
    rw (← c.run.view_is) at (c.in-Ok.ensures.film c.args.region).valid.runnable
