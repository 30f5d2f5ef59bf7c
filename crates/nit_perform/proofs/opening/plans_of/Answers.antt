use Rattle.nit_perform.proofs.Lemmas.{All, All-push, Configuration, IsWord, PlanModel, [], ap}
use Rattle.nit_perform.proofs.Lemmas.{at_member, donation_of, get_or_default, one_made}
use Rattle.nit_perform.proofs.Lemmas.{plan_of_script, script_in, ◌∙◌}
use Rattle.nit_perform.proofs.opening.plans_of.Goals as goal

pub loop-sid-preserved : goal.loop-sid-preserved
loop-sid-preserved c =
    let config = c.args.config.now in
    let scripts = c.args.scripts.now in
    let k = c.loop-sid.sid in
    let client = at_member config k c.index-clients-sid.result (c.as_slice-clients.ensures.value
    ∙ ap (λ (k : Configuration). k.clients) c.config.view_is) (rw (← c.requires.each) c.loop-sid-test.true) in
    let script = c.index-scripts-sid.is
    ∙ get_or_default scripts k c.index-scripts-sid.result [] c.loop-sid-test.true in
    record {
      made = one_made (λ t. plan_of_script (script_in scripts t) (donation_of config t)) k c.loop-sid.invariant.made
          (rw (c.in_ok-plan_of.ensures.plan, script, client)) c.in_ok-push.ensures.items;
      words = rw c.in_ok-push.ensures.items (All-push (λ (p : PlanModel). All IsWord p.ink) c.loop-sid.plans.items
          c.in_ok-plan_of.field-0 c.loop-sid.invariant.words c.in_ok-plan_of.ensures.words);
    }
