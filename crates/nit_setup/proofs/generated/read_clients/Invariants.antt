use Rattle.std.proofs.Common.{◌≡◌, map}
use Rattle.nit_setup.proofs.Lemmas.{client_script, range_with_len}
use Rattle.nit_setup.proofs.generated.read_clients.Given as goal

abbrev pub invariant-clients : goal.invariant-clients
invariant-clients l = l.scripts.items ≡ map (client_script l.number) (range_with_len 0 l.client)
