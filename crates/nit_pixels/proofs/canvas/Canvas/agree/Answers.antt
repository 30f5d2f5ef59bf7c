use Rattle.nit_pixels.proofs.canvas.Canvas.agree.Goals as goal

pub begin_watch-part-requires-clause-held : goal.begin_watch-part-requires-clause-held
begin_watch-part-requires-clause-held g c =
    rw c.end_watch.ensures.seat (rw (← c.self.view_is) at c.requires.held)
