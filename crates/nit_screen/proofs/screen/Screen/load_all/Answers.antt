use Rattle.nit_screen.proofs.Lemmas.{arith, can_paint, can_still, entry_painted_in, flat_below}
use Rattle.nit_screen.proofs.Lemmas.{length, nat_tests, painted_bare, painted_whole, refl}
use Rattle.nit_screen.proofs.Lemmas.{repainted_words, state_of}
use Rattle.nit_events.specs.declared.entry.Entry.TheVariants as entry
use Rattle.nit_screen.proofs.screen.Screen.load_all.Goals as goal

pub paint_whole-requires : goal.paint_whole-requires
paint_whole-requires g c =
    let s = c.self.inside.server in
    let all = rw (← c.self.view_is) at c.requires.glasses in
    rw c.stack.ensures.stack (can_paint s s c.self.inside.pixels _ c.facts.ensures refl refl c.self.invariant.0 all)

pub show_again-requires-clause-can : goal.show_again-requires-clause-can
show_again-requires-clause-can g c = grind (arith, nat_tests, can_still, repainted_words)

-- each pixel was loaded, so a bare one has the bare word
pub show_again-requires-clause-below : goal.show_again-requires-clause-below
show_again-requires-clause-below g c = grind (arith, nat_tests, painted_whole, flat_below, painted_bare)

pub returns-clause-painted : goal.returns-clause-painted
returns-clause-painted g c =
    let s = c.self.inside.server in
    let p = c.self.inside.pixels in
    let raw' = c.paint_whole.new.self.raw.items in
    rw (← c.self.view_is) (rw c.show_again.ensures.shown.raw
    (entry_painted_in p.is_apart p.bar (state_of s) entry.Final (state_of s) c.self.invariant.0.bar
    (painted_whole s (length p.painter.raw.items) _ _ p.painter.raw.items raw' c.facts.ensures
    c.self.invariant.0.pixels (rw c.stack.ensures.stack at c.paint_whole.ensures.painted.painted))))
