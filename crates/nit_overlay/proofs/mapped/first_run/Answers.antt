use Rattle.std.proofs.Common.{◌≡◌}
use Rattle.nit_overlay.proofs.Lemmas.{arith, more_columns, point, scenery, shown}
use Rattle.nit_overlay.proofs.Lemmas.{in_columns, in_rows}
use Rattle.nit_overlay.proofs.mapped.first_run.Goals as goal

pub overlay_run-requires-clause-owner : goal.overlay_run-requires-clause-owner
overlay_run-requires-clause-owner c x y on =
    let row = c.args.row.now in
    let here = record row { right = c.run_of-run.result.end } in
    let across = in_columns here x y on in
    let down = in_rows here x y on in
    let is : y ≡ row.top = omega (arith, down, c.requires.one) in
    rw is (c.run_of-run.ensures.slot.all x across.0 across.1)

pub returns-clause-shown : goal.returns-clause-shown
returns-clause-shown c =
    let row = c.args.row.now in
    let first = c.short_runs-end.ensures in
    let none : c.short_runs-end.result ≡ row.left = omega (arith, first.after, c.if-row-end.false) in
    (more_columns {f = λ x y w. shown (scenery c.args.lettered.now) (point x y) w} {a = row}
    (record { after = omega arith; inside = omega arith; painted = rw none at first.shown })
    (omega (arith, c.run_of-run.ensures.slot.after)) c.run_of-run.ensures.slot.within c.overlay_run.ensures).painted
