use Rattle.std.proofs.Common.{◌≡◌}
use Rattle.nit_tests.proofs.scripts.pixel_tests.watch.Given as goal

abbrev pub invariant-loop-i : goal.invariant-loop-i
invariant-loop-i l = l.lens.sight.size ≡ 4096
