use Rattle.nit_host.proofs.Lemmas.{found_takes, none_takes}
use Rattle.nit_host.proofs.host.Host.seat_for.Goals as goal

pub returns-clause-takes : goal.returns-clause-takes
returns-clause-takes c =
    let knows = c.facts.ensures in
    found_takes c.args.self.now c.args.label.now knows.config knows.sessions c.args.layer c.sought.result
    c.sought.ensures

pub returns-clause-none : goal.returns-clause-none
returns-clause-none c =
    let knows = c.facts.ensures in
    none_takes c.args.self.now c.args.label.now knows.config knows.sessions c.args.layer c.sought.result
    c.sought.ensures
