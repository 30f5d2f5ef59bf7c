use Rattle.nit_c.proofs.Lemmas.{arith, length-set, one_more, refl, seat_at, ◌∙◌}
use Rattle.nit_c.proofs.opening.read_seats.Goals as goal

pub seats-preserved : goal.seats-preserved
seats-preserved c = (
  one_more (seat_at c.args.words.now) c.seats.seats c.seats.seat _ (let t = c.seats-test.true in omega arith)
      c.seats.invariant.0 refl,
  length-set c.seats.seats c.seats.seat _ ∙ c.seats.invariant.1,
)
