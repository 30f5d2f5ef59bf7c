use Rattle.nit_report.proofs.write.+number.Given as goal

abbrev pub decreases-number : goal.decreases-number
decreases-number l = l.n
