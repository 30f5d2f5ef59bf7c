use Rattle.std.proofs.Common.{◌+◌, drop}
use Rattle.nit_top.proofs.Lemmas.{err_from_is_err_and, flat_map, flat_map_at, piece_text, says_stop}
use Rattle.nit_top.proofs.report.say.say_all.Goals as goal

pub returns-in_err-say_piece : goal.returns-in_err-say_piece
returns-in_err-say_piece g c =
    let p = err_from_is_err_and c.from_residual.result c.from_residual.ensures.1 in
    rw (p.1, p.2) (says_stop (Unit {0}) _ _ _ _ _ _ c.in_err-say_piece.field-0.0 c.loop-part.invariant
    c.in_err-say_piece.ensures (flat_map piece_text (drop (c.loop-part.part-index + 1) c.args.pieces.now))
    (flat_map_at piece_text c.args.pieces.now c.loop-part.part-index _ c.loop-part-test.true))
