use Rattle.std.proofs.Common.{false, ℕ, ◌<◌, ◌≡◌}
use Rattle.nit_host.proofs.Lemmas.{is_free_in}
use Rattle.nit_host.proofs.host.Host.first_free.Given as goal

abbrev pub invariant-seats : goal.invariant-seats
invariant-seats l = (k : ℕ) → k < l.seat → is_free_in l.self.state l.layer k ≡ false
