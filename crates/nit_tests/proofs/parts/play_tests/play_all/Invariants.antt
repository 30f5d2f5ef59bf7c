use Rattle.nit_capture.specs.Tiles.{IsPicture}
use Rattle.nit_tests.proofs.parts.play_tests.play_all.Given as goal

abbrev pub invariant-loop-want : goal.invariant-loop-want
invariant-loop-want g l = IsPicture l.player.width l.player.height l.frame
