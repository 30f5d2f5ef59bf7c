use Rattle.std.proofs.Common.{◌*◌, ◌-◌}
use Rattle.nit_overlay.proofs.Lemmas.{ColumnsPainted, point, scenery, shown}
use Rattle.nit_overlay.proofs.mapped.mapped_row.Given as goal

abbrev pub invariant-runs : goal.invariant-runs
invariant-runs l = ColumnsPainted (λ x y w. shown (scenery l.lettered) (point x y) w) l.row l.lettered.look.stack.now.width l.raw
    l.initial.out l.out (l.lettered.look.stack.now.width * l.lettered.look.stack.now.height) l.x

abbrev pub decreases-runs : goal.decreases-runs
decreases-runs l = l.row.right - l.x
