use Rattle.std.proofs.Common.{length, ◌<◌}
use Rattle.nit_look.proofs.joining.nearest.Given as goal

abbrev pub invariant-areas : goal.invariant-areas
invariant-areas l = l.best < length l.areas
