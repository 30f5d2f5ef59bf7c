use Rattle.nit_hall.proofs.Lemmas.{stretch}
use Rattle.nit_hall.proofs.room.agreeing.agree_first.Given as goal

abbrev pub ghosts-first_agreed : goal.ghosts-first_agreed
ghosts-first_agreed a = record { stages = stretch a.script.now a.donation 0 }
