use Rattle.nit_plan.proofs.Lemmas.{stage_within, within_only}
use Rattle.nit_plan.proofs.laws.stages_of_a_script.Goals as goal

pub returns : goal.returns
returns c = assumption (stage_within, within_only)
