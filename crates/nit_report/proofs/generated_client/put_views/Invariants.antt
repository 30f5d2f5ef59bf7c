use Rattle.std.proofs.Common.{[], ℕ, ◌-◌, ◌∷◌}
use Rattle.nit_report.proofs.Lemmas.{AppendsDraws, for_each, just}
use Rattle.nit_events.specs.declared.call.Call.TheVariants as call
use Rattle.nit_script.specs.declared.line.Line.TheVariants as line
use Rattle.nit_report.proofs.generated_client.put_views.Given as goal

abbrev pub invariant-loop-view : goal.invariant-loop-view
invariant-loop-view l = (s : ℕ)
    → AppendsDraws (for_each 1 (l._view - 1) (λ v. just (line.Call call.View) ∷ [])) s l.fn.lines.items s l.lines.items
