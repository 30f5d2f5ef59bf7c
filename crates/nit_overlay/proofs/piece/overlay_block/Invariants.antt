use Rattle.std.proofs.Common.{◌%◌, ◌/◌}
use Rattle.nit_overlay.proofs.Lemmas.{RowsSoFar, word_by}
use Rattle.nit_overlay.proofs.piece.overlay_block.Given as goal

abbrev pub invariant-rows : goal.invariant-rows
invariant-rows l = RowsSoFar (λ k w. word_by l.rule (k % l.width) (k / l.width) w) l.area l.width l.raw l.initial.out
    l.out l.y
