use Rattle.std.proofs.Common.{arith, length, ◌<◌, ◌∙◌, ◌≡◌}
use Rattle.nit_perform.proofs.Lemmas.{Configuration, IsSetting, ap, at_member, donation_of}
use Rattle.nit_perform.proofs.Lemmas.{get_or_default, glass_after, length-map-range_with_len}
use Rattle.nit_perform.proofs.Lemmas.{one_made, script_in, setting}
use Rattle.nit_perform.proofs.opening.glasses_of.Goals as goal

pub loop-sid-preserved : goal.loop-sid-preserved
loop-sid-preserved c =
    let config = c.args.config.now in
    let scripts = c.args.scripts.now in
    let k = c.loop-sid.sid in
    let sessions : length scripts ≡ length config.clients =
    rw (← c.requires.inked.each, c.requires.plans, length-map-range_with_len) in
    let s : IsSetting config scripts c.args.plans.now = setting sessions c.requires.plans in
    let inside : k < length scripts = rw (← s.plans_each) c.loop-sid-test.true in
    let client = at_member config k c.index-clients-sid.result (c.as_slice-clients.ensures.value
    ∙ ap (λ (k : Configuration). k.clients) c.config.view_is) (rw (← sessions) inside) in
    let plan = c.index-plans-sid.is
    ∙ get_or_default c.args.plans.now k c.index-plans-sid.result _ c.loop-sid-test.true ∙ s.planned k inside in
    one_made (λ t. glass_after t (script_in scripts t) (donation_of config t) 0) k c.loop-sid.invariant
    ((rw client at c.in_ok-glass.ensures) (script_in scripts k) plan) c.in_ok-push.ensures.items

pub returns : goal.returns
returns c =
    let scripts = c.args.scripts.now in
    let long : length c.args.plans.now ≡ length scripts = rw (c.requires.plans, length-map-range_with_len) in
    let all : c.loop-sid.sid ≡ length scripts = omega (arith, c.loop-sid.auto.sid-end, c.loop-sid-test.false) in
    rw (c.loop-sid.invariant, all)
