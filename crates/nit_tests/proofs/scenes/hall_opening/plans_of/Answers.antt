use Rattle.std.proofs.Common.{◌≡◌, ◌∙◌, ◌+◌, ◌<◌, ℕ, List, [], ap, length, subst, sym}
use Rattle.std.specs.Prelude.{All, slice_index_or}
use Rattle.std.proofs.lemmas.List.{get_or_default, length_push}
use Rattle.std.proofs.lemmas.List.Elements.{All-push}
use Rattle.nit_word.specs.Inks.{IsWord}
use Rattle.nit_config.specs.Configuration.{Configuration, donation_of}
use Rattle.nit_script.specs.declared.line.Line.{Line}
use Rattle.nit_plan.specs.Plan.{PlanModel, IsPlanOf, plan_of_script}
use Rattle.nit_plan.specs.SessionLists.{script_in}
use Rattle.nit_tests.proofs.OpeningLemmas.{donation_at, one_more}
use Rattle.nit_tests.proofs.scenes.hall_opening.plans_of.Goals as goal

pub loop-sid-preserved : goal.loop-sid-preserved
loop-sid-preserved c =
    let config = c.args.config.now in
    let scripts = c.args.scripts.now in
    let k = c.loop-sid.sid in
    let plans = c.loop-sid.plans.items in
    let plan = c.in_ok-plan_of.field-0 in
    let more = c.in_ok-push.ensures.items in
    let counted = c.loop-sid.invariant.counted in
    let script : c.index-scripts-sid.result ≡ script_in scripts k = c.index-scripts-sid.is
    ∙ get_or_default scripts k c.index-scripts-sid.result [] c.loop-sid-test.true in
    let inside : k < length config.clients = subst (λ (n : ℕ). k < n) c.requires.each c.loop-sid-test.true in
    let donation = donation_at config c.as_slice-clients.result.now k c.index-clients-sid.result
    (c.as_slice-clients.ensures.value ∙ ap (λ (x : Configuration). x.clients) c.config.view_is) inside in
    record {
      counted = ap (λ (ps : List PlanModel). length ps) more ∙ length_push plans plan ∙ ap (λ (n : ℕ). n + 1) counted;
      planned = one_more (λ n p. IsPlanOf (script_in scripts n) (donation_of config n) p) plans plan k _ counted more
          c.loop-sid.invariant.planned
          (c.in_ok-plan_of.ensures.plan
          ∙ ap (λ (s : List Line). plan_of_script s
          (slice_index_or c.as_slice-clients.result.now k c.index-clients-sid.result).donation) script
          ∙ ap (λ (n : ℕ). plan_of_script (script_in scripts k) n) donation);
      words = subst (λ (ps : List PlanModel). All (λ (p : PlanModel). All IsWord p.ink) ps) (sym more)
          (All-push (λ (p : PlanModel). All IsWord p.ink) plans plan c.loop-sid.invariant.words
          c.in_ok-plan_of.ensures.words);
    }
