use Rattle.nit_server.proofs.Lemmas.{Destroy, Done, IsServed, ServerModel, destroyed, subst, sym}
use Rattle.nit_server.proofs.server.Server.destroy.Goals as goal

pub returns : goal.returns
returns c =
    subst (λ (now : ServerModel). IsServed c.args.sid (Destroy c.args.handle) Done c.args.self.now now)
    (sym c.remove_view.ensures) (destroyed c.args.self.now c.args.sid c.args.handle c.requires.accepted)
