use Rattle.std.proofs.Common.{[], ◌∷◌}
use Rattle.nit_report.proofs.Lemmas.{AppendsDraws, busy, for_each}
use Rattle.nit_report.proofs.generated_client.put_second_phase.Given as goal

abbrev pub invariant-loop-j : goal.invariant-loop-j
invariant-loop-j l = AppendsDraws (for_each 0 l.j (λ j. busy j ∷ [])) l.fn.stream l.fn.lines.items l.stream
    l.lines.items
