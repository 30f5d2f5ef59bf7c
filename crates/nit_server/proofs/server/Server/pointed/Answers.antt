use Rattle.std.proofs.Common.{length, sym, ◌<◌, ◌∙◌}
use Rattle.nit_server.proofs.Lemmas.{All_found, IsSlotView, is_client, is_few, is_slot, no_owner}
use Rattle.nit_server.proofs.Lemmas.{owner_is, pointed_is}
use Rattle.nit_server.proofs.server.Server.pointed.Goals as goal

-- the view's session is one of those that have a buffer
seated : (c : goal.After-view) → c.view.result.sid < length c.self.inside.stack.sizes
seated c =
    let s = c.self.inside.stack in
    (All_found (IsSlotView s.most (length s.sizes)) (is_slot c.in-Some.v.0) s.views _ c.view.ensures.standing.seats
    c.view.ensures.value).session

pub returns-in-Some-clause-session : goal.returns-in-Some-clause-session
returns-in-Some-clause-session c =
    let s = c.self.inside.stack in
    pointed_is c.self.invariant.0 c.self.invariant.1 c.args.dev c.self.view_is c.clamp.ensures.place
    (owner_is s.bar s.views c.clamp.result c.in-Some.v c.view.result c.view.ensures.standing.slots
    (sym c.in-Some.is ∙ c.owner.ensures.owner) c.view.ensures.value)

pub returns-in-Some-clause-known : goal.returns-in-Some-clause-known
returns-in-Some-clause-known c = is_client c.self.invariant.0 c.self.view_is (seated c)

pub returns-in-Some-clause-few : goal.returns-in-Some-clause-few
returns-in-Some-clause-few c = is_few c.self.invariant.0 c.self.view_is (seated c)

pub returns-in-None-clause-session : goal.returns-in-None-clause-session
returns-in-None-clause-session c =
    pointed_is c.self.invariant.0 c.self.invariant.1 c.args.dev c.self.view_is c.clamp.ensures.place
    (no_owner _ (sym c.in-None.is ∙ c.owner.ensures.owner))
