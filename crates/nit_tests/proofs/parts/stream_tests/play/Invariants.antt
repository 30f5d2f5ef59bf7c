use Rattle.nit_capture.specs.Tiles.{IsPicture}
use Rattle.nit_tests.proofs.parts.stream_tests.play.Given as goal

abbrev pub invariant-loop-pictures : goal.invariant-loop-pictures
invariant-loop-pictures l = IsPicture l.player.width l.player.height l.frame
