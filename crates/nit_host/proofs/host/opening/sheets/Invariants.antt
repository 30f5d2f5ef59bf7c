use Rattle.nit_host.proofs.Lemmas.{AreTo, HasRoom}
use Rattle.nit_host.proofs.host.opening.sheets.Given as goal

abbrev pub invariant-seats : goal.invariant-seats
invariant-seats l = AreTo (HasRoom l.config) l.seat l.sheets.items
