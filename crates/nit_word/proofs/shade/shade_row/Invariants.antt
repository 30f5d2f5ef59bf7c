use Rattle.std.proofs.Common.{length, ◌-◌}
use Rattle.nit_word.proofs.Lemmas.{MappedTo}
use Rattle.nit_word.proofs.shade.shade_row.Given as goal

abbrev pub invariant-blocks-2 : goal.invariant-blocks-2
invariant-blocks-2 g l = MappedTo g.S.Shade.shade l.fn.row l.at l.row

abbrev pub decreases-blocks-2 : goal.decreases-blocks-2
decreases-blocks-2 g l = length l.fn.row - l.at
