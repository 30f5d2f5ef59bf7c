use Rattle.nit_repaint.proofs.Lemmas.{shown_as, true, whole_shown}
use Rattle.nit_repaint.proofs.painter.Painter.show_whole.Goals as goal

pub returns-clause-shown : goal.returns-clause-shown
returns-clause-shown c =
    whole_shown c.args.lettered.now c.args.self.now.raw.items c.requires.look.pixels c.requires.look.frame
    (shown_as c.args.lettered.now.look.stack.now c.begin_all.new.self (λ p. true) c.requires.look.pixels
    c.begin_all.ensures.to_come (rw c.as_slice.ensures.value at c.show_to_come.ensures.shown))
