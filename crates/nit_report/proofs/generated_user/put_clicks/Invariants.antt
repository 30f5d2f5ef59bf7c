use Rattle.nit_report.proofs.Lemmas.{AppendsDraws, click, for_each}
use Rattle.nit_report.proofs.generated_user.put_clicks.Given as goal

abbrev pub invariant-loop-i : goal.invariant-loop-i
invariant-loop-i l = AppendsDraws (for_each 0 l._i (λ i. click)) l.fn.stream l.fn.lines.items l.stream l.lines.items
