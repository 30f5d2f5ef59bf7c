use Rattle.std.proofs.Common.{◌*◌}
use Rattle.nit_overlay.proofs.Lemmas.{RowsPainted, point, scenery, shown}
use Rattle.nit_overlay.proofs.overlay.overlay_area.Given as goal

abbrev pub invariant-rows : goal.invariant-rows
invariant-rows l = RowsPainted (λ x y w. shown (scenery l.lettered) (point x y) w) l.area l.lettered.look.stack.now.width l.raw
    l.initial.out l.out (l.lettered.look.stack.now.width * l.lettered.look.stack.now.height) l.y
