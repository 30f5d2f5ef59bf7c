use Rattle.nit_report.proofs.Lemmas.{HasRead, length}
use Rattle.nit_report.proofs.parse.entries_of.Given as goal

abbrev pub invariant-loop-rest : goal.invariant-loop-rest
invariant-loop-rest l = HasRead l.bytes l.entries.items l.rest

abbrev pub decreases-loop-rest : goal.decreases-loop-rest
decreases-loop-rest l = length l.rest
