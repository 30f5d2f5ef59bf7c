use Rattle.std.proofs.Common.{refl, sym, ◌∙◌, ◌≡◌}
use Rattle.nit_screen.proofs.Lemmas.{Flat, bar_again}
use Rattle.nit_screen.proofs.screen.pixels.Pixels.show_again.Goals as goal

pub returns-in-Flat-clause-shown : goal.returns-in-Flat-clause-shown
returns-in-Flat-clause-shown c =
    let s = c.args.server.now in
    let p = c.args.self.now in
    let e = c.draw_bar.ensures in
    let one = c.if-self.false in
    let flat : s.input.mode ≡ Flat = sym c.mode.ensures ∙ c.in-Flat.is in
    bar_again s p (record p.painter { raw = c.draw_bar.new.words }) one (c.requires.fresh one) flat c.requires.can refl
    e.length e.shown (c.requires.below flat one)
