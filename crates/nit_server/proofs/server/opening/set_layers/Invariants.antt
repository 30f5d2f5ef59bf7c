use Rattle.std.proofs.Common.{length, map, take, ◌≡◌}
use Rattle.nit_server.proofs.server.opening.set_layers.Given as goal

abbrev pub invariant-loop-sid : goal.invariant-loop-sid
invariant-loop-sid l = record {
  rest : l.stack ≡ record l.initial.stack { layers = l.stack.layers };
  length : length l.stack.layers ≡ length l.clients;
  given : take l.sid l.stack.layers ≡ map (λ m. m.layer) (take l.sid l.clients);
}
