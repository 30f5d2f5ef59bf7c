use Rattle.nit_host.proofs.Lemmas.{arith, first_seat, has_label, nat_tests, no_seat, sym}
use Rattle.nit_host.proofs.host.Host.labelled.Goals as goal

pub returns-then-has_label-clause-found : goal.returns-then-has_label-clause-found
returns-then-has_label-clause-found c =
    sym (first_seat (has_label c.args.self.now.state c.args.label.now) _ c.seats.seat
    (omega (arith, c.seats-test.true, c.seats-seat-end.ensures)) c.seats.invariant (sym c.if-has_label.ensures))

pub returns-clause-found : goal.returns-clause-found
returns-clause-found c = grind (arith, nat_tests, no_seat)
