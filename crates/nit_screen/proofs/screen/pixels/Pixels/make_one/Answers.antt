use Rattle.nit_screen.proofs.Lemmas.{bare_word_at, flat_below, raw_unbarred, state_of, ◌∙◌}
use Rattle.nit_screen.proofs.screen.pixels.Pixels.make_one.Goals as goal

pub show_again-requires-clause-below : goal.show_again-requires-clause-below
show_again-requires-clause-below c = λ flat one.
    let s = state_of c.args.server.now in
    let raw = c.args.self.now.painter.raw.items in
    flat_below s raw flat (λ k l e. bare_word_at s raw k (rw c.if-not-self.false at c.requires.raw) l e)

pub returns-clause-shown : goal.returns-clause-shown
returns-clause-shown c =
    let s = state_of c.args.server.now in
    let p = c.args.self.now in
    let h = c.requires.pixels.0 in
    let apart = c.if-not-self.false in
    let e = c.show_again.ensures.shown in
    let same = raw_unbarred s p.bar p.painter.raw.items h.bar h.fits h.pixels (rw apart at c.requires.raw) in
    record { pixels = e.pixels; raw = rw apart (e.raw ∙ same) }
