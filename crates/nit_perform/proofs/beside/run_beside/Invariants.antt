use Rattle.nit_perform.proofs.beside.run_beside.Given as goal

abbrev pub ghosts-run_named : goal.ghosts-run_named
ghosts-run_named g a = record { parts = a.opened.room.parts }
