use Rattle.std.proofs.Common.{arith, ◌-◌}
use Rattle.nit_report.proofs.Lemmas.{appends_one, each_done, each_more, each_none, placed}
use Rattle.nit_report.proofs.generated_client.put_places.Goals as goal

pub loop-view-init : goal.loop-view-init
loop-view-init c = each_none 1 _ _ _

pub loop-view-preserved : goal.loop-view-preserved
loop-view-preserved c =
    each_more _ _ _ _ _ c.loop-view.invariant (appends_one (placed _) c.placed.ensures c.in_ok-push.ensures)
    (omega arith) (omega arith)

pub returns : goal.returns
returns c = each_done _ _ _ _ c.loop-view.invariant (omega arith)
