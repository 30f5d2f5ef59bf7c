use Rattle.nit_pixels.proofs.canvas.Canvas.agree.Given as goal
use Rattle.nit_pixels.proofs.Lemmas.{reader_view}

abbrev pub ghosts-end_watch : goal.ghosts-end_watch
ghosts-end_watch g a = record { view = reader_view a.seat.now.me.0 }

abbrev pub ghosts-take_up : goal.ghosts-take_up
ghosts-take_up g a = record { view = reader_view a.seat.now.me.0 }
