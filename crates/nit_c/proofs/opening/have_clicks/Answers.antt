use Rattle.nit_c.proofs.Lemmas.{all_hold, arith, has_click, nat_tests, one_fails, seat_count, sym}
use Rattle.nit_c.proofs.opening.have_clicks.Goals as goal

pub returns-then-words-seat-gt1 : goal.returns-then-words-seat-gt1
returns-then-words-seat-gt1 c =
    sym (one_fails (has_click c.args.words.now) (seat_count c.args.words.now) c.seats.seat (let t =
    c.seats-test.true in omega arith) (grind (arith, nat_tests)))

pub returns : goal.returns
returns c =
    sym (all_hold (has_click c.args.words.now) (seat_count c.args.words.now) c.seats.seat (let t =
    c.seats-test.false in omega (arith, c.seats.auto)) c.seats.invariant)
