use Rattle.nit_server.proofs.Lemmas.{no_owner, owned_at, owner_is, sym, ◌∙◌}
use Rattle.nit_server.proofs.server.Server.owner.Goals as goal

pub returns-in-Some : goal.returns-in-Some
returns-in-Some c =
    let s = c.self.inside.stack in
    owned_at c.self.invariant.0 c.self.view_is c.args.p _
    (owner_is s.bar s.views c.args.p c.in-Some.v c.view.result c.view.ensures.standing.slots
    (sym c.in-Some.is ∙ c.owner.ensures.owner) c.view.ensures.value)

pub returns-in-None : goal.returns-in-None
returns-in-None c =
    owned_at c.self.invariant.0 c.self.view_is c.args.p _ (no_owner _ (sym c.in-None.is ∙ c.owner.ensures.owner))
