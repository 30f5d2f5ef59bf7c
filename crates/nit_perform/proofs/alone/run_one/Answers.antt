use Rattle.nit_perform.proofs.Lemmas.{is_ready_alone, setting, ◌∙◌}
use Rattle.nit_perform.proofs.alone.run_one.Goals as goal

pub play_alone-requires-clause-ready : goal.play_alone-requires-clause-ready
play_alone-requires-clause-ready g c = is_ready_alone c.in_ok-opened.ensures
    (setting c.requires.runnable.scripts (c.deref-2.ensures.value ∙ c.in_ok-plans.ensures.plans)) c.requires.alone
