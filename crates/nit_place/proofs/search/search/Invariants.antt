use Rattle.std.proofs.Common.{◌-◌}
use Rattle.nit_place.proofs.Lemmas.{RowsSoFar, part_at, views_of}
use Rattle.nit_place.proofs.search.search.Given as goal

abbrev pub invariant-rows : goal.invariant-rows
invariant-rows l = RowsSoFar (part_at (views_of l.stack.views)) l.front l.area l.w l.h l.y

abbrev pub decreases-rows : goal.decreases-rows
decreases-rows l = 65535 - l.y
