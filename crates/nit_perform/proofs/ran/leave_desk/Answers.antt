use Rattle.nit_perform.proofs.ran.leave_desk.Goals as goal

pub returns-clause-puts : goal.returns-clause-puts
returns-clause-puts g c = c.of_picture-fault.ensures (g.S.Store.shown c.args.desk.store.now)
