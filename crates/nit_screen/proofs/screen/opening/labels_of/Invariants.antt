use Rattle.std.proofs.Common.{map, take, ◌≡◌}
use Rattle.nit_screen.proofs.screen.opening.labels_of.Given as goal

abbrev pub invariant-loop-client : goal.invariant-loop-client
invariant-loop-client l = l.labels.items ≡ map (λ m. m.label) (take l.client-index l.config.clients)
