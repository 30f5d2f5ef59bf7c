use Rattle.std.proofs.Common.{◌*◌, ◌-◌}
use Rattle.nit_overlay.proofs.Lemmas.{ColumnsPainted, point, scenery, shown}
use Rattle.nit_overlay.proofs.overlay.overlay_row.Given as goal

abbrev pub invariant-pieces : goal.invariant-pieces
invariant-pieces l = ColumnsPainted (λ x y w. shown (scenery l.lettered) (point x y) w) l.row l.lettered.look.stack.now.width l.raw
    l.initial.out l.out (l.lettered.look.stack.now.width * l.lettered.look.stack.now.height) l.x

abbrev pub decreases-pieces : goal.decreases-pieces
decreases-pieces l = l.row.right - l.x
