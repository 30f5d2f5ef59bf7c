use Rattle.std.proofs.Common.{false, slice_index_or, ℕ, ◌<◌, ◌≡◌}
use Rattle.nit_place.proofs.Lemmas.{SlotView, is_slot}
use Rattle.nit_place.proofs.place.views_in_front.Given as goal

abbrev pub invariant-views : goal.invariant-views
invariant-views l = (k : ℕ) (d : SlotView) → k < l.i → is_slot l.v.0 (slice_index_or l.stack.views k d) ≡ false
