use Rattle.nit_pixels.proofs.canvas.Canvas.watch.Given as goal
use Rattle.nit_pixels.proofs.Lemmas.{[], told_words}
use Rattle.std.specs.Prelude.{◌∷◌}

abbrev pub ghosts-begin_watch : goal.ghosts-begin_watch
ghosts-begin_watch a = record { stages = told_words a.seat.now.me.0.words ∷ [] }
