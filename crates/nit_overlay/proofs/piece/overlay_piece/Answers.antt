use Rattle.std.proofs.Common.{ap, arith, rules, sym, ℕ, ◌<◌, ◌∙◌}
use Rattle.nit_overlay.proofs.Lemmas.{in_columns, in_rows, point, rect_shown}
use Rattle.nit_overlay.proofs.piece.overlay_piece.Goals as goal

pub overlay_owned-requires-clause-owner : goal.overlay_owned-requires-clause-owner
overlay_owned-requires-clause-owner c x y on =
    let across = in_columns c.area_of-area.result x y on in
    let down = in_rows c.area_of-area.result x y on in
    let left : x < c.size-width.result.0 = omega (arith, across, c.area_of-area.ensures.area.right) in
    let above : y < c.size-width.result.1 = omega (arith, down, c.area_of-area.ensures.area.bottom) in
    c.owner_of-owner.ensures.owner (point x y)
    (c.requires.owner (point x y) (sym (c.area_of-area.ensures.same x y left above) ∙ on))

pub returns : goal.returns
returns c =
    let wide = ap (λ (size : ℕ × ℕ). size.0) c.size-width.ensures.size in
    let high = ap (λ (size : ℕ × ℕ). size.1) c.size-width.ensures.size in
    record {
      pixels = rect_shown c.area_of-area.result c.args.lettered.now c.args.piece.now.rect c.overlay_owned.ensures
          (λ x y lt less. c.area_of-area.ensures.same x y (omega arith) (omega arith));
      count = search rules;
    }
