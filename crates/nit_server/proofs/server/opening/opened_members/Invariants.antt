use Rattle.std.proofs.Common.{map, take, ◌≡◌}
use Rattle.nit_server.proofs.Lemmas.{first_kept_session}
use Rattle.nit_server.proofs.server.opening.opened_members.Given as goal

abbrev pub invariant-loop-client : goal.invariant-loop-client
invariant-loop-client l = l.members.items ≡ map first_kept_session (take l.client-index l.clients)
