use Rattle.nit_top.proofs.Lemmas.{Stop, ap, usage_ends, ◌∙◌}
use Rattle.nit_top.proofs.top.no_command.Goals as goal

pub returns : goal.returns
returns c = λ shown. usage_ends (ap (λ (s : Stop). s.end) c.ended_before_run.ensures.stop ∙ c.nowhere.ensures.0)
    c.ended_before_run.ensures.journal
