use Rattle.std.proofs.Common.{map, ◌≡◌}
use Rattle.nit_perform.proofs.Lemmas.{All, IsWord, PlanModel, donation_of, plan_of_script}
use Rattle.nit_perform.proofs.Lemmas.{range_with_len, script_in}
use Rattle.nit_perform.proofs.opening.plans_of.Given as goal

abbrev pub invariant-loop-sid : goal.invariant-loop-sid
invariant-loop-sid l = record {
  made : l.plans.items ≡ map (λ t. plan_of_script (script_in l.scripts t) (donation_of l.config t))
      (range_with_len 0 l.sid);
  words : All (λ (p : PlanModel). All IsWord p.ink) l.plans.items;
}
