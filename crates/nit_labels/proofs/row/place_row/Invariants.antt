use Rattle.std.proofs.Common.{◌-◌, ◌<◌, ◌≡◌, ◌≤◌}
use Rattle.nit_labels.proofs.Lemmas.{AreFoundFrom, IsOfRun, owner_at, slice_index_or}
use Rattle.nit_labels.proofs.row.place_row.Given as goal

abbrev pub invariant-columns : goal.invariant-columns
invariant-columns l = record {
  within : l.x ≤ l.width;
  found : AreFoundFrom (owner_at l.own l.width) l.width l.height l.widths l.tall l.x l.y l.found;
  edge : 0 < l.x → l.x < l.width → slice_index_or l.down l.x 0 ≡ l.tall
      → IsOfRun l.row l.down l.tall l.x (l.x - 1) → ⊥;
}

abbrev pub decreases-columns : goal.decreases-columns
decreases-columns l = l.x
