use Rattle.std.proofs.Common.{length, ◌-◌}
use Rattle.nit_overlay.proofs.Lemmas.{RowsPainted, point, scenery, view_word}
use Rattle.nit_overlay.proofs.piece.overlay_view.Given as goal

abbrev pub invariant-bands : goal.invariant-bands
invariant-bands l = RowsPainted (λ x y w. view_word l.lettered.look.mode (scenery l.lettered) l.owner.view (point x y) w) l.area
    l.width l.raw l.initial.out l.out (length l.raw) l.y

abbrev pub decreases-bands : goal.decreases-bands
decreases-bands l = l.area.bottom - l.y
