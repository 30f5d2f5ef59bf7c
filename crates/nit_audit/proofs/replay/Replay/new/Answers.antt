use Rattle.nit_audit.proofs.Lemmas.{Configuration, Member, ap, arith, first_session, fresh}
use Rattle.nit_audit.proofs.Lemmas.{length-map, map, ◌∙◌}
use Rattle.nit_audit.proofs.replay.Replay.new.Goals as goal

pub returns-clause-kept : goal.returns-clause-kept
returns-clause-kept c =
    let opened = rw c.as_slice.ensures.value at c.in_ok-opened_machines.ensures
    ∙ ap (λ (cfg : Configuration). map (λ (m : Member). first_session m.donation) cfg.clients) c.config.view_is in
    rw opened (record {
      screen = c.opened_focus.ensures.screen;
      clicks = c.opened_focus.ensures.clicks;
      each = length-map c.args.config.now.clients (λ (m : Member). first_session m.donation);
      few = c.requires.count.1;
      next = λ t. let f = fresh c.args.config.now.clients t in omega (arith, f.next);
      lost = λ t. let f = fresh c.args.config.now.clients t in omega (arith, f.lost);
      shots = omega arith;
    })
