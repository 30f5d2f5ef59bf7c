use Rattle.nit_host.proofs.Lemmas.{arith, first_seat, is_free_in, nat_tests, no_seat, sym}
use Rattle.nit_host.proofs.host.Host.first_free.Goals as goal

pub returns-then-is_free_in : goal.returns-then-is_free_in
returns-then-is_free_in c =
    sym (first_seat (is_free_in c.args.self.now.state c.args.layer) _ c.seats.seat
    (omega (arith, c.seats-test.true, c.seats-seat-end.ensures)) c.seats.invariant
    (sym c.if-is_free_in.ensures))

pub returns : goal.returns
returns c = grind (arith, nat_tests, no_seat)
