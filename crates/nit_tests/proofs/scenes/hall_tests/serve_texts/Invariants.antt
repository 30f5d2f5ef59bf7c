use Rattle.nit_tests.proofs.scenes.hall_tests.serve_texts.Given as goal

abbrev pub ghosts-serve_all : goal.ghosts-serve_all
ghosts-serve_all g a = record { parts = a.opened.opened.room.parts }
