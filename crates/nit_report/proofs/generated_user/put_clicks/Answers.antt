use Rattle.nit_report.proofs.Lemmas.{arith, each_done, each_more, each_none}
use Rattle.nit_report.proofs.generated_user.put_clicks.Goals as goal

pub loop-i-init : goal.loop-i-init
loop-i-init c = each_none 0 _ _ _

pub loop-i-preserved : goal.loop-i-preserved
loop-i-preserved c =
    each_more _ _ _ c.loop-i._i _ c.loop-i.invariant c.in_ok-put_click.ensures (omega arith) (omega arith)

pub returns : goal.returns
returns c = each_done _ _ _ _ c.loop-i.invariant (omega arith)
