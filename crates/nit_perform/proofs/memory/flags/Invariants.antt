use Rattle.std.proofs.Common.{length, ◌≡◌}
use Rattle.nit_perform.proofs.memory.flags.Given as goal

abbrev pub invariant-loop-i : goal.invariant-loop-i
invariant-loop-i l = length l.flags.items ≡ l._i
