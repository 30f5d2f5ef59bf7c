use Rattle.std.proofs.Common.{length}
use Rattle.nit_tests.proofs.scenes.hall_tests.+must_match.Given as goal

abbrev pub decreases-must_match : goal.decreases-must_match
decreases-must_match g l = length l.scripts.now
