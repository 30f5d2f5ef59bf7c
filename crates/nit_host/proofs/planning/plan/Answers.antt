use Rattle.nit_host.proofs.Lemmas.{IsConfiguration, plan_configured, subst, sym}
use Rattle.nit_host.proofs.planning.plan.Goals as goal

pub returns-in-Ok-clause-configured : goal.returns-in-Ok-clause-configured
returns-in-Ok-clause-configured c =
    subst IsConfiguration (sym c.in-Ok.ensures)
    (plan_configured c.args.screen.now c.args.seats.now (sym c.in_default.ensures))
