use Rattle.std.proofs.Common.{◌≤◌}
use Rattle.nit_labels.proofs.Lemmas.{AreDown, AreFoundFrom, owner_at}
use Rattle.nit_labels.proofs.finding.places.Given as goal

abbrev pub invariant-rows : goal.invariant-rows
invariant-rows l = record {
  within : l.y ≤ l.height;
  down : AreDown (owner_at l.own l.width) l.width l.height l.tall l.y l.down;
  found : AreFoundFrom (owner_at l.own l.width) l.width l.height l.widths l.tall 0 l.y l.found;
}

abbrev pub decreases-rows : goal.decreases-rows
decreases-rows l = l.y
