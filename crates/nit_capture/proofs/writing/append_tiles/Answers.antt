use Rattle.nit_capture.proofs.Lemmas.{append_assoc, appends_part, arith, one_at_most, tile_counted}
use Rattle.nit_capture.proofs.Lemmas.{tile_done}
use Rattle.nit_capture.proofs.writing.append_tiles.Goals as goal

pub returns-in_err-count-clause-bytes : goal.returns-in_err-count-clause-bytes
returns-in_err-count-clause-bytes c = grind (arith, appends_part, append_assoc)

pub loop-number-preserved : goal.loop-number-preserved
loop-number-preserved c = grind (arith, tile_done, tile_counted, one_at_most)
