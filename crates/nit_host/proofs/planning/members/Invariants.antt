use Rattle.std.proofs.Common.{map, take, ◌≡◌}
use Rattle.nit_host.proofs.Lemmas.{enumerate_from, waiting_member}
use Rattle.nit_host.proofs.planning.members.Given as goal

abbrev pub invariant-seats : goal.invariant-seats
invariant-seats l = l.members.items ≡ map (λ p. waiting_member p.0 p.1) (enumerate_from 0 (take l.seat l.seats))
