use Rattle.nit_perform.proofs.capture.run_filmed.Given as goal

abbrev pub ghosts-film_named : goal.ghosts-film_named
ghosts-film_named g a = record { begun = a.reel.film.capture; name = a.store.ghost_name }
