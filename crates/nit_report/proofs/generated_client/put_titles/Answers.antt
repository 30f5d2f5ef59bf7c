use Rattle.std.proofs.Common.{arith, refl, ◌-◌}
use Rattle.nit_report.proofs.Lemmas.{appends_one, each_done, each_more, each_none, just, titled}
use Rattle.nit_events.specs.declared.call.Call.TheVariants as call
use Rattle.nit_script.specs.declared.line.Line.TheVariants as line
use Rattle.nit_report.proofs.generated_client.put_titles.Goals as goal

pub loop-view-init : goal.loop-view-init
loop-view-init c = λ s. each_none 1 _ s _

pub loop-view-preserved : goal.loop-view-preserved
loop-view-preserved c = λ s.
    each_more _ _ _ _ _ (c.loop-view.invariant s)
    (appends_one (just (titled c.loop-view.view)) (rw c.title.ensures refl, refl) c.in_ok-push.ensures) (omega arith)
    (omega arith)

pub returns : goal.returns
returns c = λ s. each_done _ _ _ _ (c.loop-view.invariant s) (omega arith)
