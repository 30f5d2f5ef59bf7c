use Rattle.nit_damage.specs.Cutter.{FitsStack, pieces_left}
use Rattle.nit_tests.proofs.parts.pictures.picture.Given as goal

abbrev pub invariant-pieces : goal.invariant-pieces
invariant-pieces g l = FitsStack l.cutter l.stack

abbrev pub decreases-pieces : goal.decreases-pieces
decreases-pieces g l = pieces_left l.cutter l.stack
