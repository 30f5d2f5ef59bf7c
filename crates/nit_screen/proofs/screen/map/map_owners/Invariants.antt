use Rattle.std.proofs.Common.{length, ◌≡◌, ◌-◌}
use Rattle.nit_screen.proofs.Lemmas.{MapUnderWay}
use Rattle.nit_screen.proofs.screen.map.map_owners.Given as goal

abbrev pub invariant-bands : goal.invariant-bands
invariant-bands l = record {
  far : MapUnderWay l.stack l.y l.map;
  work : length l.work ≡ length l.initial.work;
}

abbrev pub decreases-bands : goal.decreases-bands
decreases-bands l = l.height - l.y
