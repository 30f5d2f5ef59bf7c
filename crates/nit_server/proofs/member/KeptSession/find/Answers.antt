use Rattle.nit_server.proofs.Lemmas.{has_as_held}
use Rattle.nit_server.proofs.member.KeptSession.find.Goals as goal

pub returns-clause-none : goal.returns-clause-none
returns-clause-none c = rw (← c.self.view_is, has_as_held c.self.inside.table.pairs c.args.h) c.find.ensures.none
