use Rattle.std.proofs.Common.{◌*◌}
use Rattle.nit_screen.proofs.Basics.{mul-le-mul_right}
use Rattle.nit_screen.proofs.Lemmas.{arith, next_rows, refl}
use Rattle.nit_screen.proofs.screen.map.map_band.Goals as goal

pub rows-preserved : goal.rows-preserved
rows-preserved c =
    let room = mul-le-mul_right c.args.width c.paint_row-end.ensures.within.1 in
    next_rows c.args.patches.now c.args.width c.args.from c.rows.y c.paint_row-end.result (c.rows.y * c.args.width) _
    c.args.map.now c.rows.map c.paint_row-end.new.row c.repeat_row.new.map c.rows.invariant
    c.paint_row-end.ensures.within.0 (omega arith) refl (omega arith) (omega arith)
    (λ x z lt from less. c.paint_row-end.ensures.mapped x z (omega arith) from less)
    c.repeat_row.ensures.count c.repeat_row.ensures.above c.repeat_row.ensures.rows
