use Rattle.nit_top.proofs.Lemmas.{calls_to_make, map, refl, user_actions_to_do}
use Rattle.nit_top.proofs.laws.runs_are_audited.Goals as goal

pub returns-clause-yes : goal.returns-clause-yes
returns-clause-yes c = λ s journal j. c.yes_is_legal_and_whole.ensures.comes s.config (map calls_to_make s.scripts)
    (user_actions_to_do s.input) journal j.legal j.whole

pub returns-clause-read : goal.returns-clause-read
returns-clause-read c = λ s journal runnable j. (c.journals_fit.ensures s journal runnable j, refl)
