use Rattle.nit_run.proofs.Lemmas.{journal_fits}
use Rattle.nit_run.proofs.laws.journals_fit.Goals as goal

pub returns : goal.returns
returns c = λ s journal runnable j.
    journal_fits
    (record {
      fronts = c.fronts_are_legal.ensures.legal;
      agrees = c.fronts_are_legal.ensures.agrees;
      sessions = c.configuration_stays.ensures.sessions;
      machines = c.machines_stand_alone.ensures;
      kept = c.deliveries_fit.ensures;
      live = c.deliveries_go_to_live_sessions.ensures.legal;
    })
    s runnable journal j
