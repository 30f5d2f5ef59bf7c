use Rattle.nit_capture.proofs.Lemmas.{arith, inr, picture_set, reader_steps}
use Rattle.nit_capture.proofs.reading.take_tile.Goals as goal

pub returns-in_default-clause-read : goal.returns-in_default-clause-read
returns-in_default-clause-read c = grind (arith, reader_steps)

pub loop-pixel-preserved : goal.loop-pixel-preserved
loop-pixel-preserved c = rw c.place-at.ensures.value (record {
  read = grind (arith, reader_steps);
  picture = picture_set _ _ _ _ _ c.loop-pixel.invariant.picture c.in-Some.ensures.word;
  word = inr c.in-Some.ensures.word;
})

pub returns-then-more-gt0-clause-read : goal.returns-then-more-gt0-clause-read
returns-then-more-gt0-clause-read c = grind (arith, reader_steps)

pub returns-then-new-clause-read : goal.returns-then-new-clause-read
returns-then-new-clause-read c = grind (arith, reader_steps)

pub returns-else-new-clause-read : goal.returns-else-new-clause-read
returns-else-new-clause-read c = grind (arith, reader_steps)
