use Rattle.std.proofs.Common.{◌≡◌, ℕ, Some, length, slice_get}
use Rattle.std.specs.Prelude.{All}
use Rattle.nit_word.specs.Inks.{IsWord}
use Rattle.nit_plan.specs.Plan.{PlanModel, IsPlanOf}
use Rattle.nit_plan.specs.SessionLists.{script_in}
use Rattle.nit_config.specs.Configuration.{donation_of}
use Rattle.nit_tests.proofs.scenes.hall_opening.plans_of.Given as goal

abbrev pub invariant-loop-sid : goal.invariant-loop-sid
invariant-loop-sid l = record {
  counted : length l.plans.items ≡ l.sid;
  planned : (k : ℕ) (p : PlanModel) → slice_get l.plans.items k ≡ Some p
      → IsPlanOf (script_in l.scripts k) (donation_of l.config k) p;
  words : All (λ (p : PlanModel). All IsWord p.ink) l.plans.items;
}
