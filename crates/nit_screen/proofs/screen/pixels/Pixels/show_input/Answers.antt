use Rattle.std.proofs.Common.{◌≡◌}
use Rattle.nit_screen.proofs.Lemmas.{other_focus, rules, state_of}
use Rattle.nit_screen.proofs.screen.pixels.Pixels.show_input.Goals as goal

pub show_again-requires-clause-below : goal.show_again-requires-clause-below
show_again-requires-clause-below c = λ flat one.
    let s = c.args.server.now in
    let p = c.args.self.now in
    let same : c.args.mode ≡ s.input.mode = search rules in
    other_focus (state_of s) c.args.focus p.bar p.painter.raw.items flat c.requires.can.bar
    (rw (one, same) at (c.requires.before (c.requires.fresh one)))
