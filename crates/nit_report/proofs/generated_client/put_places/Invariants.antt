use Rattle.std.proofs.Common.{[], ◌-◌, ◌∷◌}
use Rattle.nit_report.proofs.Lemmas.{AppendsDraws, for_each, placed}
use Rattle.nit_report.proofs.generated_client.put_places.Given as goal

abbrev pub invariant-loop-view : goal.invariant-loop-view
invariant-loop-view l = AppendsDraws (for_each 1 (l.view - 1) (λ v. placed v ∷ [])) l.fn.stream l.fn.lines.items
    l.stream l.lines.items
