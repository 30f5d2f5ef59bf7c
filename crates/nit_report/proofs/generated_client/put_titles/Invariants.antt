use Rattle.std.proofs.Common.{[], ℕ, ◌-◌, ◌∷◌}
use Rattle.nit_report.proofs.Lemmas.{AppendsDraws, for_each, just, titled}
use Rattle.nit_report.proofs.generated_client.put_titles.Given as goal

abbrev pub invariant-loop-view : goal.invariant-loop-view
invariant-loop-view l = (s : ℕ)
    → AppendsDraws (for_each 1 (l.view - 1) (λ v. just (titled v) ∷ [])) s l.fn.lines.items s l.lines.items
