use Rattle.nit_hall.proofs.Lemmas.{stretch}
use Rattle.nit_hall.proofs.room.agreeing.agree_on_stretch.Given as goal

abbrev pub ghosts-agree : goal.ghosts-agree
ghosts-agree a = record { stages = stretch a.at.now.script.now a.at.now.donation a.at.now.line }
