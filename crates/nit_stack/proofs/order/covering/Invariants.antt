use Rattle.std.proofs.Common.{drop, find, ◌≡◌}
use Rattle.nit_stack.proofs.Lemmas.{covers, slot_view}
use Rattle.nit_stack.proofs.order.covering.Given as goal

abbrev pub invariant-loop-k : goal.invariant-loop-k
invariant-loop-k l = find (λ k. covers (slot_view l.slots k).view.rect l.p) (drop l.k-index l.order)
    ≡ find (λ k. covers (slot_view l.slots k).view.rect l.p) l.order
