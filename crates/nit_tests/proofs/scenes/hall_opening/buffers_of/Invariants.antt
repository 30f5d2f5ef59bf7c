use Rattle.std.proofs.Common.{◌≡◌, ℕ, Some, length, map, slice_get}
use Rattle.nit_config.specs.Configuration.{donation_of}
use Rattle.nit_plan.specs.SessionLists.{script_in}
use Rattle.nit_pixels.specs.End.{End, new_sight}
use Rattle.nit_tests.proofs.scenes.hall_opening.buffers_of.Given as goal

abbrev pub invariant-loop-sid : goal.invariant-loop-sid
invariant-loop-sid l = record {
  counted : length l.keys.items ≡ l.sid;
  own : map (λ (key : End). key.stand.buffer) l.keys.items ≡ l.buffers.items;
  blank : (k : ℕ) (key : End) → slice_get l.keys.items k ≡ Some key
      → key.sight ≡ new_sight k (script_in l.scripts k) (donation_of l.config k);
}
