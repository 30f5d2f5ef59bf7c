use Rattle.nit_report.proofs.Lemmas.{appends_one, appends_then, arith, busy, each_done, each_more}
use Rattle.nit_report.proofs.Lemmas.{each_none, just, refl}
use Rattle.nit_script.specs.declared.line.Line.TheVariants as line
use Rattle.nit_report.proofs.generated_client.put_second_phase.Goals as goal

pub loop-j-init : goal.loop-j-init
loop-j-init c = each_none 0 _ _ _

pub loop-j-preserved : goal.loop-j-preserved
loop-j-preserved c =
    each_more _ _ _ _ _ c.loop-j.invariant (appends_one (busy _) c.busy.ensures c.in_ok-push.ensures) (omega arith)
    (omega arith)

pub returns : goal.returns
returns c = appends_then (each_done _ _ _ _ c.loop-j.invariant (omega arith))
    (appends_one (just line.Phase) (refl, refl) c.in_ok-push-2.ensures)
