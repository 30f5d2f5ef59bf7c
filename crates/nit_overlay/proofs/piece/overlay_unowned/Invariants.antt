use Rattle.std.proofs.Common.{◌%◌, ◌/◌}
use Rattle.nit_overlay.proofs.Lemmas.{RowsSoFar, point, scenery, unowned_word}
use Rattle.nit_overlay.proofs.piece.overlay_unowned.Given as goal

abbrev pub invariant-rows : goal.invariant-rows
invariant-rows l = RowsSoFar (λ k w. unowned_word (scenery l.lettered) (point (k % l.width) (k / l.width))) l.area l.width
    l.raw l.initial.out l.out l.y
