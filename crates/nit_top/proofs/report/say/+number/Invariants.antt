use Rattle.nit_top.proofs.report.say.+number.Given as goal

abbrev pub decreases-number : goal.decreases-number
decreases-number g l = l.n
