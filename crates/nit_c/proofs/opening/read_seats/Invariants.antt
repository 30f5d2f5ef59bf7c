use Rattle.std.proofs.Common.{length, map, take, ◌≡◌}
use Rattle.nit_c.proofs.Lemmas.{range_with_len, seat_at}
use Rattle.nit_c.proofs.opening.read_seats.Given as goal

abbrev pub invariant-seats : goal.invariant-seats
invariant-seats l = (take l.seat l.seats ≡ map (seat_at l.words) (range_with_len 0 l.seat))
    × (length l.seats ≡ length l.fn.seats)
