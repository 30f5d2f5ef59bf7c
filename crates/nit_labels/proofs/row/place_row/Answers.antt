use Rattle.std.proofs.Common.{arith, ◌∙◌, ◌+◌, ◌-◌, ◌≡◌}
use Rattle.nit_labels.proofs.Lemmas.{IsRun, found_row, found_run, found_short, owner_at, run_row}
use Rattle.nit_labels.proofs.row.place_row.Goals as goal

pub columns-init : goal.columns-init
columns-init c = record {
  within = omega arith;
  found = found_row (owner_at c.args.own.now c.args.width) c.args.width c.args.height c.args.tall c.args.widths.now c.args.y _ c.requires.below;
  edge = λ low lt tall here. absurd (omega arith);
}

pub columns-preserved-then-down-x : goal.columns-preserved-then-down-x
columns-preserved-then-down-x c =
    let before = c.columns.invariant in
    let x = c.columns.x - 1 in
    let e : x + 1 ≡ c.columns.x = omega (arith, c.columns-test.true) in
    record {
      within = omega (arith, before.within);
      found = found_short (owner_at c.args.own.now c.args.width) c.args.width c.args.height c.args.tall c.args.widths.now x
          c.args.y _ _ c.requires.tall (c.requires.down x (omega (arith, before.within))) c.if-down-x.true
          (rw e before.found);
      edge = λ low lt tall more. c.if-down-x.true tall;
    }

pub columns-preserved : goal.columns-preserved
columns-preserved c =
    let at = owner_at c.args.own.now c.args.width in
    let before = c.columns.invariant in
    let start = c.run_start-x.result in
    let run : IsRun at c.args.width c.args.height c.args.tall start c.args.y (c.columns.x - start) =
    run_row at c.args.width c.args.height c.args.tall (c.columns.x - 1) start c.columns.x c.args.y _ _ c.requires.tall
    c.row_of-row.ensures c.requires.down (omega arith) before.within c.run_start-x.ensures.within
    c.run_start-x.ensures.run (before.edge (omega arith)) in
    let e : start + (c.columns.x - start) ≡ c.columns.x = omega arith in
    record {
      within = omega arith;
      found = rw c.put.ensures
          (found_run at c.args.width c.args.height c.args.tall c.args.widths.now start c.args.y _ _ _ c.requires.tall
          (c.row_of-row.ensures.owners start (omega arith)) (c.columns.auto.found ∙ c.requires.found) run c.requires.top
          (rw e before.found));
      edge = λ low lt tall more.
          c.run_start-x.ensures.more low
          (more.0 ∙ (c.run_start-x.ensures.run start (omega arith) c.run_start-x.ensures.within).0, more.1);
    }
