use Rattle.nit_report.proofs.Lemmas.{clients_read, refl, user_fits}
use Rattle.nit_report.proofs.generator.generate.Goals as goal

pub returns-clause-reads : goal.returns-clause-reads
returns-clause-reads c = rw c.in_ok-clients.ensures (clients_read c.args.n 0 8)

pub returns-clause-user_reads : goal.returns-clause-user_reads
returns-clause-user_reads c = rw c.in_ok-input.ensures (user_fits c.args.n, refl)
