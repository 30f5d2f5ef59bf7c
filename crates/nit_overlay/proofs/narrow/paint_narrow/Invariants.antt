use Rattle.std.proofs.Common.{◌%◌, ◌/◌}
use Rattle.nit_overlay.proofs.Lemmas.{RowsSoFar, stripe_rule, word_by}
use Rattle.nit_overlay.proofs.narrow.paint_narrow.Given as goal

abbrev pub invariant-rows : goal.invariant-rows
invariant-rows l = RowsSoFar (λ k w. word_by (stripe_rule l.stripe (k % l.width)) (k % l.width) (k / l.width) w)
    l.area l.width l.raw l.initial.out l.out l.y
