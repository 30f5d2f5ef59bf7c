use Rattle.nit_perform.proofs.Lemmas.{is_ready, setting, ◌∙◌}
use Rattle.nit_perform.proofs.beside.run_beside.Goals as goal

pub buffers_of-requires : goal.buffers_of-requires
buffers_of-requires g c = record { configured = c.requires.configured; each = c.requires.scripts }

pub open-requires-clause-setting : goal.open-requires-clause-setting
open-requires-clause-setting g c = setting c.requires.scripts (c.deref-2.ensures.value ∙ c.in_ok-plans.ensures.plans)

pub run_named-requires-clause-ready : goal.run_named-requires-clause-ready
run_named-requires-clause-ready g c κs within = is_ready c.in_ok-opened.ensures
    (setting c.requires.scripts (c.deref-2.ensures.value ∙ c.in_ok-plans.ensures.plans))
