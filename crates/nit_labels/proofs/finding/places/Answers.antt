use Rattle.std.proofs.Common.{arith, ◌+◌, ◌-◌, ◌≡◌}
use Rattle.nit_labels.proofs.Lemmas.{found_all, found_skip, owner_at}
use Rattle.nit_labels.proofs.finding.places.Goals as goal

pub place_row-requires-clause-below : goal.place_row-requires-clause-below
place_row-requires-clause-below c =
    let e : c.rows.y - 1 + 1 ≡ c.rows.y = omega (arith, c.rows-test.true) in
    rw e c.rows.invariant.found

pub returns : goal.returns
returns c =
    let e : c.rows.y ≡ 0 = omega (arith, c.rows-test.false) in
    λ o lt wide.
    found_all (owner_at c.args.own.now c.args.width) c.args.width c.args.height c.args.tall c.args.widths.now _ _ _ wide
    (rw e at (c.rows.invariant.found o lt wide))

pub rows-preserved-then-is_again_above : goal.rows-preserved-then-is_again_above
rows-preserved-then-is_again_above c =
    let again = c.is_again_above.ensures.again c.if-is_again_above.true in
    let e : c.rows.y - 1 + 1 ≡ c.rows.y = omega (arith, c.rows-test.true) in
    record {
      within = omega (arith, c.rows.invariant.within);
      down = c.count_down.ensures;
      found = found_skip (owner_at c.args.own.now c.args.width) c.args.width c.args.height c.args.tall c.args.widths.now _ _
          again.0 again.1 (rw e c.rows.invariant.found);
    }
