use Rattle.std.proofs.Common.{drop, nat_le, ◌+◌, ◌≡◌}
use Rattle.nit_stack.proofs.Lemmas.{layer_in, position_or_len}
use Rattle.nit_stack.proofs.order.front_place.Given as goal

abbrev pub invariant-loop-i : goal.invariant-loop-i
invariant-loop-i l =
    position_or_len (λ k. nat_le l.layer (layer_in l.slots l.layers k)) (drop l.i l.order) + l.i
    ≡ position_or_len (λ k. nat_le l.layer (layer_in l.slots l.layers k)) l.order
