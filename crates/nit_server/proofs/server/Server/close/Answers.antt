use Rattle.nit_server.proofs.Lemmas.{closed}
use Rattle.nit_server.proofs.server.Server.close.Goals as goal

pub returns : goal.returns
returns c = rw c.end_session.ensures (closed c.args.self.now c.args.sid c.requires.accepted)
