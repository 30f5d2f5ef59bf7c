use Rattle.std.proofs.Common.{length, ◌++◌, ◌≡◌}
use Rattle.nit_perform.proofs.Lemmas.{into_iter_items}
use Rattle.nit_perform.proofs.memory.canvases_of.Given as goal

abbrev pub invariant-loop-key : goal.invariant-loop-key
invariant-loop-key l = record {
  can : (goal.iterator-loop-key).can_next l.key-iterator;
  ends : (goal.iterator-loop-key).is_finite l.key-iterator;
  counted : l.sid ≡ length l.yielded;
  left : l.fn.keys.items ≡ l.yielded ++ into_iter_items l.key-iterator;
  made : l.canvases.items ≡ l.yielded;
}
