use Rattle.std.proofs.Common.{◌*◌}
use Rattle.nit_screen.proofs.Lemmas.{arith, no_copy, one_copy}
use Rattle.nit_screen.proofs.screen.map.repeat_row.Goals as goal

pub rows-init : goal.rows-init
rows-init c = no_copy c.args.width c.args.y c.args.map.now

pub rows-preserved : goal.rows-preserved
rows-preserved c =
    one_copy c.args.width c.args.y c.rows.z (c.args.y * c.args.width) (c.rows.z * c.args.width) _ c.args.map.now
    c.rows.map c.copy_within.new.self c.rows.invariant (omega arith) (omega arith) (omega arith) (omega arith)
    c.copy_within.ensures.len
    (λ k from lt. c.copy_within.ensures.by_index.0 k 0 from lt) (λ k lt. c.copy_within.ensures.by_index.1 k 0 lt)
