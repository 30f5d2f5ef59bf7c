use Rattle.std.proofs.Common.{take, ◌*◌, ◌≡◌, ◌≤◌}
use Rattle.nit_server.proofs.Lemmas.{slots_of_all}
use Rattle.nit_server.proofs.server.opening.slots_of_all.Given as goal

abbrev pub invariant-loop-client : goal.invariant-loop-client
invariant-loop-client l = record {
  sum : l.count ≡ slots_of_all (take l.client-index l.clients);
  most : l.count ≤ 64 * l.client-index;
}
