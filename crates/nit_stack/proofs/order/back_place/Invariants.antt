use Rattle.std.proofs.Common.{drop, false, nat_le, ◌≡◌}
use Rattle.nit_stack.proofs.Lemmas.{layer_in, list_any}
use Rattle.nit_stack.proofs.order.back_place.Given as goal

abbrev pub invariant-loop-i : goal.invariant-loop-i
invariant-loop-i l = list_any (λ k. nat_le (layer_in l.slots l.layers k) l.layer) (drop l.i l.order) ≡ false
