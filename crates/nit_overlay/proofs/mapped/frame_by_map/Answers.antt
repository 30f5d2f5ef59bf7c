use Rattle.nit_overlay.proofs.Lemmas.{ap, arith, is_frame, is_whole}
use Rattle.std.proofs.Common.{refl}
use Rattle.nit_overlay.proofs.MapLemmas.{whole_area}
use Rattle.nit_overlay.proofs.mapped.frame_by_map.Goals as goal

pub returns : goal.returns
returns c =
    let s = c.args.lettered.now.look.stack.now in
    let high = ap (λ size. size.1) c.size-width.ensures.size in
    is_frame (record (whole_area s.width s.height) { bottom = c.rows.y }) c.args.lettered.now c.rows.invariant.painted
    (λ x y lt less. is_whole s.width s.height s.width c.rows.y x y refl
    (omega (arith, c.rows.invariant.inside, c.rows-test.false)) lt less)
    (omega (arith, c.rows.auto.out, c.requires.words.out))
