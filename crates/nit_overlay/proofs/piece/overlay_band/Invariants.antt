use Rattle.std.proofs.Common.{length, ◌-◌}
use Rattle.nit_overlay.proofs.Lemmas.{ColumnsPainted, stripe_rule, word_by}
use Rattle.nit_overlay.proofs.piece.overlay_band.Given as goal

abbrev pub invariant-runs : goal.invariant-runs
invariant-runs l = ColumnsPainted (λ x y w. word_by (stripe_rule l.stripe x) x y w) l.area l.width l.raw l.initial.out
    l.out (length l.raw) l.x

abbrev pub decreases-runs : goal.decreases-runs
decreases-runs l = l.area.right - l.x
