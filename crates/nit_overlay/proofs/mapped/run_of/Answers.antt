use Rattle.std.proofs.Common.{◌*◌, ◌+◌, refl}
use Rattle.nit_overlay.proofs.Lemmas.{ap, arith, point}
use Rattle.nit_overlay.proofs.MapLemmas.{named_here, run_named, stands_here}
use Rattle.nit_overlay.proofs.mapped.run_of.Goals as goal

pub returns-clause-slot : goal.returns-clause-slot
returns-clause-slot c =
    let s = c.args.lettered.now.look.stack.now in
    let wide = ap (λ size. size.0) c.size-width.ensures.size in
    rw wide (run_named s c.args.map.now c.args.x c.args.y c.args.to c.same_number-end.result c.slot_of.result
    c.len-standing.ensures.standing c.requires.map c.requires.columns.before c.requires.columns.across
    c.requires.columns.down (rw wide at c.same_number-end.ensures) (rw wide at c.slot_of.ensures))

pub returns-clause-stands : goal.returns-clause-stands
returns-clause-stands c =
    let s = c.args.lettered.now.look.stack.now in
    let wide = ap (λ size. size.0) c.size-width.ensures.size in
    stands_here s (point c.args.x c.args.y) c.slot_of.result
    (named_here s c.args.map.now c.args.x c.args.y (c.args.y * s.width + c.args.x) c.slot_of.result
    c.len-standing.ensures.standing c.requires.map (omega (arith, c.requires.columns)) c.requires.columns.down refl
    (rw wide at c.slot_of.ensures))
