use Rattle.nit_capture.proofs.Lemmas.{arith, cut_shown, on_screen}
use Rattle.nit_capture.proofs.capture.Capture.picture.Goals as goal

pub cut_into-requires-clause-bytes : goal.cut_into-requires-clause-bytes
cut_into-requires-clause-bytes c = rw (← c.self.view_is) at c.requires

pub invariant_of-grid : goal.invariant_of-grid
invariant_of-grid c =
    let i = c.self.invariant.0 in
    let on = on_screen _ _ _ (record { inside = i.inside; pixels = i.pixels }) in
    record {
      size = record {
        some_columns = omega (arith, i.pixels.0);
        some_rows = omega (arith, i.pixels.1);
        columns = omega (arith, on.right, i.size.columns);
        rows = omega (arith, on.bottom, i.size.rows);
      };
    }

pub returns-clause-left : goal.returns-clause-left
returns-clause-left c = grind arith

pub returns-clause-appended : goal.returns-clause-appended
returns-clause-appended c = grind (arith, cut_shown)

pub returns-clause-kept : goal.returns-clause-kept
returns-clause-kept c = grind (arith, cut_shown)
