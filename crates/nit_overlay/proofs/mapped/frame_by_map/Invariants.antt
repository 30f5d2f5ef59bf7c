use Rattle.std.proofs.Common.{◌*◌}
use Rattle.nit_overlay.proofs.Lemmas.{RowsPainted, point, scenery, shown}
use Rattle.nit_overlay.proofs.MapLemmas.{whole_area}
use Rattle.nit_overlay.proofs.mapped.frame_by_map.Given as goal

abbrev pub invariant-rows : goal.invariant-rows
invariant-rows l = RowsPainted (λ x y w. shown (scenery l.lettered) (point x y) w)
    (whole_area l.lettered.look.stack.now.width l.lettered.look.stack.now.height) l.lettered.look.stack.now.width l.raw l.initial.out l.out
    (l.lettered.look.stack.now.width * l.lettered.look.stack.now.height) l.y
