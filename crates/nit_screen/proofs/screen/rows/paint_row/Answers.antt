use Rattle.std.proofs.Common.{arith, false, inl, inr, length, refl, sym, true, ◌∙◌}
use Rattle.nit_screen.proofs.Lemmas.{full_on, next_begun, patch_at, whole}
use Rattle.nit_screen.proofs.Lemmas.{is_filled}
use Rattle.nit_screen.proofs.screen.rows.paint_row.Goals as goal

pub patches-preserved-then-not-is_row : goal.patches-preserved-then-not-is_row
patches-preserved-then-not-is_row c =
    let far = c.patches.invariant in
    record {
      begun = next_begun c.args.patches.now (length c.args.row.now) c.args.y c.patches.end c.row_end-end.result c.patches.i
          c.patches.row c.patches.next c.patches.row c.patches.next _ false c.requires.patches far.begun c.patches-test.true
          c.row_end-end.ensures.within.1
          (λ z from less. c.row_end-end.ensures.same z from less ∙ sym c.is_row.ensures ∙ c.if-not-is_row.true)
          far.begun.count (record { words = λ x lt. refl; count = refl }) far.begun.skips;
      after = c.row_end-end.ensures.within.0;
      within = omega (arith, c.row_end-end.ensures.within.1);
      reached = far.reached;
      full = far.full;
    }

pub fill_patch-requires-clause-patch : goal.fill_patch-requires-clause-patch
fill_patch-requires-clause-patch c =
    rw c.patches.auto.row (patch_at c.args.patches.now (length c.args.row.now) c.patches.i _ c.requires.patches c.patches-test.true)

pub returns-then-first-row-clause-mapped : goal.returns-then-first-row-clause-mapped
returns-then-first-row-clause-mapped c =
    let far = c.patches.invariant in
    let slot = (patch_at c.args.patches.now (length c.args.row.now) c.patches.i _ c.requires.patches c.patches-test.true).number in
    whole c.args.patches.now (length c.args.row.now) c.args.y c.row_end-end.result _ c.fill_patch.new.row c.fill_patch.new.next
    (next_begun c.args.patches.now (length c.args.row.now) c.args.y c.patches.end c.row_end-end.result c.patches.i c.patches.row
    c.patches.next c.fill_patch.new.row c.fill_patch.new.next _ true c.requires.patches far.begun c.patches-test.true
    c.row_end-end.ensures.within.1
    (λ z from less. c.row_end-end.ensures.same z from less ∙ sym c.is_row.ensures ∙ c.if-not-is_row.false)
    (rw c.patches.auto.row at c.fill_patch.ensures.row) c.fill_patch.ensures.filled c.fill_patch.ensures.skips)
    (inr (λ x lt.
    full_on _ _ _ c.patches.first c.go_on-first.result c.patches.row c.fill_patch.new.row slot c.fill_patch.ensures.filled
    (omega arith) far.full (c.go_on-first.ensures (is_filled c.fill_patch.new.row) c.fill_patch.ensures.skips) x
    (omega arith)))

pub patches-preserved : goal.patches-preserved
patches-preserved c =
    let far = c.patches.invariant in
    let slot = (patch_at c.args.patches.now (length c.args.row.now) c.patches.i _ c.requires.patches c.patches-test.true).number in
    let skip = c.go_on-first.ensures (is_filled c.fill_patch.new.row) c.fill_patch.ensures.skips in
    record {
      begun = next_begun c.args.patches.now (length c.args.row.now) c.args.y c.patches.end c.row_end-end.result c.patches.i
          c.patches.row c.patches.next c.fill_patch.new.row c.fill_patch.new.next _ true c.requires.patches far.begun
          c.patches-test.true c.row_end-end.ensures.within.1
          (λ z from less. c.row_end-end.ensures.same z from less ∙ sym c.is_row.ensures ∙ c.if-not-is_row.false)
          (rw c.patches.auto.row at c.fill_patch.ensures.row) c.fill_patch.ensures.filled c.fill_patch.ensures.skips;
      after = c.row_end-end.ensures.within.0;
      within = omega (arith, c.row_end-end.ensures.within.1);
      reached = omega (arith, skip.within, c.fill_patch.ensures.row.columns);
      full = full_on _ _ _ c.patches.first c.go_on-first.result c.patches.row c.fill_patch.new.row slot
          c.fill_patch.ensures.filled (omega arith) far.full skip;
    }

pub returns-clause-mapped : goal.returns-clause-mapped
returns-clause-mapped c =
    whole c.args.patches.now (length c.args.row.now) c.args.y c.patches.end c.patches.i c.patches.row c.patches.next
    c.patches.invariant.begun (inl (omega arith))
