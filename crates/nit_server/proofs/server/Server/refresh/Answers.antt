use Rattle.nit_server.proofs.Lemmas.{refreshed}
use Rattle.nit_server.proofs.server.Server.refresh.Goals as goal

pub returns : goal.returns
returns c = refreshed c.args.self.now c.args.sid c.args.x c.args.y c.args.w c.args.h c.requires.accepted
