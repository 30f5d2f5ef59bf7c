use Rattle.std.proofs.Common.{◌≡◌}
use Rattle.nit_overlay.proofs.Lemmas.{arith, in_columns, in_rows, more_columns, no_columns}
use Rattle.nit_overlay.proofs.overlay.overlay_row.Goals as goal

pub pieces-init : goal.pieces-init
pieces-init c = no_columns c.requires.area.area.across

pub overlay_owned-requires-clause-owner : goal.overlay_owned-requires-clause-owner
overlay_owned-requires-clause-owner c x y on =
    let row = c.args.row.now in
    let here = record row { left = c.pieces.x; right = c.piece_at-piece.result.end } in
    let across = in_columns here x y on in
    let down = in_rows here x y on in
    let is : y ≡ row.top = omega (arith, down, c.requires.one) in
    rw is (c.piece_at-piece.ensures.owner.all x across.0 across.1)

pub pieces-preserved : goal.pieces-preserved
pieces-preserved c =
    more_columns c.pieces.invariant (omega arith) c.piece_at-piece.ensures.owner.within c.overlay_owned.ensures
