use Rattle.nit_hall.proofs.Lemmas.{line_stages}
use Rattle.nit_hall.proofs.room.agreeing.agree_on_line.Given as goal

abbrev pub ghosts-agree : goal.ghosts-agree
ghosts-agree a = record { stages = line_stages a.at.now.script.now a.at.now.donation a.at.now.line }
