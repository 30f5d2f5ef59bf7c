use Rattle.nit_config.proofs.Lemmas.{built_more, members_of, view}
use Rattle.nit_config.proofs.build.members.Goals as goal

pub clients-preserved : goal.clients-preserved
clients-preserved c =
    built_more (λ v. members_of (view v)) c.args.clients.now c.clients.i _ _ c.index-clients-i.result _ _
    c.clients-test.true c.clients.invariant
    c.index-clients-i.is c.table_of-client.ensures c.in_ok-member.ensures c.in_ok-push.ensures.items
