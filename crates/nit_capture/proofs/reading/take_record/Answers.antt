use Rattle.nit_capture.proofs.Lemmas.{arith, reader_steps}
use Rattle.nit_capture.proofs.reading.take_record.Goals as goal

pub returns-in_default-take_turn-clause-read : goal.returns-in_default-take_turn-clause-read
returns-in_default-take_turn-clause-read c = grind (arith, reader_steps)

pub loop-number-preserved : goal.loop-number-preserved
loop-number-preserved c = record { read = grind (arith, reader_steps); picture = c.in-Some.ensures.picture }

pub returns-then-left-eq0-clause-read : goal.returns-then-left-eq0-clause-read
returns-then-left-eq0-clause-read c = grind (arith, reader_steps)

pub returns-else-left-eq0-clause-read : goal.returns-else-left-eq0-clause-read
returns-else-left-eq0-clause-read c = grind (arith, reader_steps)
