use Rattle.nit_server.proofs.Lemmas.{Configuration, KeptSessionModel, ap, first_kept_session}
use Rattle.nit_server.proofs.Lemmas.{lettered, map-map, opened_server, ◌∙◌}
use Rattle.nit_server.proofs.server.Server.new.Goals as goal

pub invariant_of-result : goal.invariant_of-result
invariant_of-result c =
    let input = c.opened_focus-focus.ensures.attending in (
      opened_server c.requires
          (c.as_slice-clients.ensures.value ∙ ap (λ (z : Configuration). z.clients) c.config.view_is)
          (ap (lettered c.args.lettering) c.in_ok-config.ensures) c.in_ok-stack.ensures c.in_ok-members.ensures
          c.in_ok-slots.ensures c.slots_of_all.ensures.sum c.slots_of_all.ensures.most,
      rw c.in_ok-config.ensures (record { screen = input.screen; clicks = input.clicks; known = input.known }),
    )

pub returns : goal.returns
returns c =
    let given = c.as_slice-clients.ensures.value ∙ ap (λ (z : Configuration). z.clients) c.config.view_is in
    let same = map-map (λ (m : KeptSessionModel). m.session) first_kept_session c.args.config.now.clients in
    let parts = c.in_ok-stack.ensures in
    rw (c.in_ok-config.ensures, parts, c.in_ok-members.ensures, given, c.opened_focus-focus.ensures.input, same)
