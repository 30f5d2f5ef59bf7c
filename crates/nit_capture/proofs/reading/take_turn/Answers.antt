use Rattle.nit_capture.proofs.Lemmas.{arith, nat_tests, take_all}
use Rattle.nit_capture.specs.RecordReaders.{turn_at}
use Rattle.nit_capture.proofs.reading.take_turn.Goals as goal

pub returns-then-left-eq0-clause-read : goal.returns-then-left-eq0-clause-read
unfolding turn_at
returns-then-left-eq0-clause-read c = grind arith

pub returns-in_default-clause-read : goal.returns-in_default-clause-read
unfolding turn_at
returns-in_default-clause-read c = grind arith

pub returns-then-low-high-clause-read : goal.returns-then-low-high-clause-read
unfolding turn_at
returns-then-low-high-clause-read c = grind (arith, nat_tests)

pub returns-in_default-take_tile-clause-read : goal.returns-in_default-take_tile-clause-read
unfolding turn_at
returns-in_default-take_tile-clause-read c = grind (arith, nat_tests, take_all)

pub returns-clause-read : goal.returns-clause-read
unfolding turn_at
returns-clause-read c = grind (arith, nat_tests, take_all)
