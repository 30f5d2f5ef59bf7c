use Rattle.std.proofs.Common.{arith, length, true}
use Rattle.nit_screen.proofs.Lemmas.{next_begun}
use Rattle.nit_screen.proofs.screen.rows.begin_rows.Goals as goal

pub patches-preserved : goal.patches-preserved
patches-preserved c =
    let far = c.patches.invariant in
    record {
      few = omega arith;
      begun = next_begun c.args.patches.now (length c.args.row.now) c.args.from c.args.to c.args.to c.patches.i c.patches.row
          c.patches.next c.fill_patch.new.row c.fill_patch.new.next _ true c.requires.patches far.begun (omega arith) (omega arith)
          (c.has_rows.ensures c.if-has_rows.true) (rw (c.patches.auto.row, c.begin_row.auto.row) at c.fill_patch.ensures.row) c.fill_patch.ensures.filled
          c.fill_patch.ensures.skips;
    }
