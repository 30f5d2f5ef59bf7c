use Rattle.std.proofs.Common.{◌*◌, ◌+◌, refl}
use Rattle.nit_overlay.proofs.Lemmas.{ap, arith, point, sym, ◌∙◌}
use Rattle.nit_overlay.proofs.MapLemmas.{named_here, stands_here}
use Rattle.nit_overlay.proofs.mapped.word_at.Goals as goal

pub plain_pixel-requires-clause-stands : goal.plain_pixel-requires-clause-stands
plain_pixel-requires-clause-stands c =
    let s = c.args.lettered.now.look.stack.now in
    let wide = ap (λ size. size.0) c.size-width.ensures.size in
    rw c.in-Some.is at (stands_here s (point c.args.x c.args.y) c.slot_of.result
    (named_here s c.args.map.now c.args.x c.args.y (c.args.y * s.width + c.args.x) c.slot_of.result
    c.len-standing.ensures.standing c.requires.map (omega (arith, c.requires.column)) c.requires.column.down refl
    (rw wide at c.slot_of.ensures)))

pub returns : goal.returns
returns c =
    let s = c.args.lettered.now.look.stack.now in
    let wide = ap (λ size. size.0) c.size-width.ensures.size in
    c.plain_pixel.ensures (sym c.in-Some.is
    ∙ named_here s c.args.map.now c.args.x c.args.y (c.args.y * s.width + c.args.x) c.slot_of.result
    c.len-standing.ensures.standing c.requires.map (omega (arith, c.requires.column)) c.requires.column.down refl
    (rw wide at c.slot_of.ensures))
