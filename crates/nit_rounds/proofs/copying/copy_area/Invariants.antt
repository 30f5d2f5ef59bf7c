use Rattle.nit_rounds.proofs.Lemmas.{IsWithWords, rows_to, told_at}
use Rattle.nit_rounds.proofs.copying.copy_area.Given as goal

abbrev pub invariant-rows : goal.invariant-rows
invariant-rows l = IsWithWords l.initial.scene l.scene l.sid (rows_to l.w l.area (told_at l.own) l.j)
