use Rattle.nit_overlay.proofs.Lemmas.{ap, arith, rect_shown, rules, ℕ}
use Rattle.nit_overlay.proofs.overlay.rect_into.Goals as goal

pub returns : goal.returns
returns c =
    let wide = ap (λ (size : ℕ × ℕ). size.0) c.size-width.ensures.size in
    let high = ap (λ (size : ℕ × ℕ). size.1) c.size-width.ensures.size in
    record {
      pixels = rect_shown c.area_of-area.result c.args.lettered.now c.args.rect.now c.overlay_area.ensures
          (λ x y lt less. c.area_of-area.ensures.same x y (omega arith) (omega arith));
      count = search rules;
    }
