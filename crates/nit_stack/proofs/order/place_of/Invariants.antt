use Rattle.std.proofs.Common.{drop, ◌+◌, ◌==◌, ◌≡◌}
use Rattle.nit_stack.proofs.Lemmas.{position_or_len}
use Rattle.nit_stack.proofs.order.place_of.Given as goal

abbrev pub invariant-loop-i : goal.invariant-loop-i
invariant-loop-i l = position_or_len (λ k. k == l.slot) (drop l.i l.order) + l.i
    ≡ position_or_len (λ k. k == l.slot) l.order
