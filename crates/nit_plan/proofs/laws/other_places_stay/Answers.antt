use Rattle.std.proofs.Common.{◌+◌}
use Rattle.nit_plan.proofs.Lemmas.{Step, refl, static, step_of_line, step_stays, words_after}
use Rattle.nit_plan.proofs.Lemmas.{words_next}
use Rattle.nit_plan.proofs.laws.other_places_stay.Goals as goal

pub returns : goal.returns
returns c script donation k n l here outside =
    let step : Step = step_of_line (static script donation k) (static script donation (k + 1)) l in
    rw (← words_next script donation k l step here refl) (step_stays l step (words_after script donation k) n outside)
