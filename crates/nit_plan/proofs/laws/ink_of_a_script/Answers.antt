use Rattle.nit_plan.proofs.Lemmas.{has_stages, left_by_some, stage_fits}
use Rattle.nit_plan.proofs.laws.ink_of_a_script.Goals as goal

pub returns : goal.returns
returns c = assumption (has_stages, left_by_some, stage_fits)
