use Rattle.std.proofs.Common.{◌-◌}
use Rattle.nit_place.proofs.Lemmas.{RowSoFar, part_at, views_of}
use Rattle.nit_place.proofs.search.place_in_row.Given as goal

abbrev pub invariant-places : goal.invariant-places
invariant-places l = RowSoFar (part_at (views_of l.stack.views)) l.front l.area l.w l.h l.y l.x l.next

abbrev pub decreases-places : goal.decreases-places
decreases-places l = 65535 - l.x
