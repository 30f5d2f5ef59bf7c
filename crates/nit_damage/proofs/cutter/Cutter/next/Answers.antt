use Rattle.nit_damage.proofs.Lemmas.{None, Some, arith, bar_next, below_next, next_came, next_fits}
use Rattle.nit_damage.proofs.Lemmas.{next_piece}
use Rattle.nit_damage.proofs.cutter.Cutter.next.Goals as goal

-- the bar
pub returns-then-self : goal.returns-then-self
returns-then-self c =
    let is = rw (← c.bar_part.ensures.value) at (bar_next (rw (← c.self.view_is) at c.requires) c.if-self.true
    c.bar_part.ensures.fits c.bar_part.ensures.screen) in
    rw (← c.self.view_is)
    (assumption (next_fits is, next_came (Some record { rect = c.bar_part.result; owner = None }) is, is, is.piece))

pub next_cut-requires-clause-fits : goal.next_cut-requires-clause-fits
next_cut-requires-clause-fits c = (rw (← c.self.view_is) at c.requires).jobs

pub next_cut-requires-clause-room : goal.next_cut-requires-clause-room
next_cut-requires-clause-room c =
    let fits = rw (← c.self.view_is) at c.requires in
    omega (arith, fits.room, c.self.invariant)

-- below the bar
pub returns : goal.returns
returns c =
    let e = c.next_cut.ensures in
    let is = below_next c.next_cut.new.jobs.items c.next_cut.result (rw (← c.self.view_is) at c.requires)
    c.if-self.false e.fits e.count e.piece e.fewer in
    rw (← c.self.view_is) (record {
      room = is.room;
      fits = next_fits is;
      count = is.count;
      came = next_came c.next_cut.result is;
      pixels = next_piece c.next_cut.result is (λ piece it. it.pixels);
      on_screen = next_piece c.next_cut.result is (λ piece it. it.on_screen);
      owner = next_piece c.next_cut.result is (λ piece it. it.owner);
      stands = next_piece c.next_cut.result is (λ piece it. it.stands);
      fewer = is.fewer;
    })
