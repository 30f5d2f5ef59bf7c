use Rattle.nit_screen.proofs.Lemmas.{RowsCopied}
use Rattle.nit_screen.proofs.screen.map.repeat_row.Given as goal

abbrev pub invariant-rows : goal.invariant-rows
invariant-rows l = RowsCopied l.width l.y l.z l.initial.map l.map
