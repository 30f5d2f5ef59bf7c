use Rattle.std.proofs.Common.{length, map, ◌≡◌}
use Rattle.nit_perform.proofs.Lemmas.{AreKeysBlank, End}
use Rattle.nit_perform.proofs.memory.buffers_of.Given as goal

abbrev pub invariant-loop-sid : goal.invariant-loop-sid
invariant-loop-sid l = record {
  keys_are : length l.keys.items ≡ l.sid;
  own : map (λ (key : End). key.stand.buffer) l.keys.items ≡ l.buffers.items;
  blank : AreKeysBlank l.config l.scripts l.keys.items;
}
