use Rattle.nit_audit.proofs.Lemmas.{arith, delivered, delivery, heard_one, input_played, rules, sym}
use Rattle.nit_audit.proofs.Lemmas.{◌∙◌}
use Rattle.nit_audit.proofs.replay.Replay.input.Goals as goal

pub returns-then-not-is_same : goal.returns-then-not-is_same
returns-then-not-is_same c = λ agrees. let same =
    c.is_same.ensures.1 (c.route-told.ensures.routed ∙ sym agrees) in search rules

pub deliver-requires-3 : goal.deliver-requires-3
deliver-requires-3 c t =
    let told = c.route-told.result in
    let all = c.args.self.now.sessions in
    let a = heard_one told.a all t in
    let b = heard_one told.b (delivered (delivery told.a) all) t in
    rw (c.deliver-2.ensures, c.deliver.ensures, c.route-told.ensures.input)
    (omega (arith, a.lost, b.lost, c.requires.going.kept.lost t, c.requires.going.few))

pub returns : goal.returns
returns c =
    input_played c.args.config.now c.args.dev c.route-told.result c.args.routed.now c.args.self.now
    c.route-told.new.self c.deliver.new.self c.deliver-2.new.self c.deliver-3.new.self c.count.new.self
    c.requires.going.kept (c.is_same.ensures.0 (search rules)) c.route-told.ensures.routed
    c.route-told.ensures.all c.route-told.ensures.input c.deliver.ensures
    c.deliver-2.ensures c.deliver-3.ensures c.count.ensures
