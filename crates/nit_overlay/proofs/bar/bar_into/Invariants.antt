use Rattle.std.proofs.Common.{◌%◌, ◌/◌}
use Rattle.nit_overlay.proofs.Lemmas.{RowsSoFar, bar_area, bar_word, point, scenery}
use Rattle.nit_overlay.proofs.bar.bar_into.Given as goal

abbrev pub invariant-rows : goal.invariant-rows
invariant-rows l = RowsSoFar (λ k w. bar_word (scenery l.lettered) (point (k % l.width) (k / l.width)))
    (bar_area l.width l.lettered.look.stack.now.bar) l.width l.fn.out l.fn.out l.out l.y
