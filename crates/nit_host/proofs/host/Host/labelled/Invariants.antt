use Rattle.std.proofs.Common.{false, ℕ, ◌<◌, ◌≡◌}
use Rattle.nit_host.proofs.Lemmas.{has_label}
use Rattle.nit_host.proofs.host.Host.labelled.Given as goal

abbrev pub invariant-seats : goal.invariant-seats
invariant-seats l = (k : ℕ) → k < l.seat → has_label l.self.state l.label k ≡ false
