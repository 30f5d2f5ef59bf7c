use Rattle.std.proofs.Common.{true, ℕ, ◌<◌, ◌≡◌}
use Rattle.nit_c.proofs.Lemmas.{has_click}
use Rattle.nit_c.proofs.opening.have_clicks.Given as goal

abbrev pub invariant-seats : goal.invariant-seats
invariant-seats l = (k : ℕ) → k < l.seat → has_click l.words k ≡ true
