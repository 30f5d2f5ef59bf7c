use Rattle.std.proofs.Common.{◌-◌}
use Rattle.nit_screen.proofs.Lemmas.{BandUnderWay}
use Rattle.nit_screen.proofs.screen.map.map_band.Given as goal

abbrev pub invariant-rows : goal.invariant-rows
invariant-rows l = BandUnderWay l.patches l.width l.from l.y l.initial.map l.map

abbrev pub decreases-rows : goal.decreases-rows
decreases-rows l = l.to - l.y
