use Rattle.std.proofs.Common.{ℕ, ◌<◌, ◌≢◌}
use Rattle.nit_server.proofs.Lemmas.{client_in}
use Rattle.nit_server.proofs.server.seats.is_free.Given as goal

abbrev pub invariant-clients : goal.invariant-clients
invariant-clients l = (t : ℕ) → t < l.i → t ≢ l.sid → (client_in l.clients t).label ≢ l.label
