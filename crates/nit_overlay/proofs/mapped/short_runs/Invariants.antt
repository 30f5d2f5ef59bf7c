use Rattle.std.proofs.Common.{◌*◌, ◌-◌}
use Rattle.nit_overlay.proofs.Lemmas.{ColumnsPainted, point, scenery, shown}
use Rattle.nit_overlay.proofs.mapped.short_runs.Given as goal

abbrev pub invariant-pixels : goal.invariant-pixels
invariant-pixels l = ColumnsPainted (λ x y w. shown (scenery l.lettered) (point x y) w) l.row l.lettered.look.stack.now.width l.raw
    l.initial.out l.out (l.lettered.look.stack.now.width * l.lettered.look.stack.now.height) l.x

abbrev pub decreases-pixels : goal.decreases-pixels
decreases-pixels l = l.row.right - l.x
