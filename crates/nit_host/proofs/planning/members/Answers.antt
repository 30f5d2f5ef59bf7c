use Rattle.nit_host.proofs.Lemmas.{one_more, refl, waiting_member, ◌∙◌}
use Rattle.nit_host.proofs.planning.members.Goals as goal

pub seats-preserved : goal.seats-preserved
seats-preserved c =
    c.in_ok-push.ensures.items ∙ one_more waiting_member c.args.seats.now c.seats.seat _ _ c.seats.members.items
    c.in_ok-member.field-0 c.seats-test.true refl c.seats.invariant c.in_ok-member.ensures
