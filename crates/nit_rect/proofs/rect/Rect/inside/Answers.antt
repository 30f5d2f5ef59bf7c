use Rattle.std.proofs.Common.{eq-eqb, sym, ◌∙◌}
use Rattle.nit_rect.proofs.Lemmas.{lies_across, lies_down, no_pixels, none_lie, pixels_of}
use Rattle.nit_rect.proofs.Lemmas.{tests_lie}
use Rattle.nit_rect.proofs.rect.Rect.inside.Goals as goal

pub returns-then-area-eq0 : goal.returns-then-area-eq0
returns-then-area-eq0 c = (
  λ _. none_lie c.args.self.now c.args.r.now (no_pixels c.args.self.now (sym c.area.ensures ∙ c.if-area-eq0.true)),
  λ _. eq-eqb c.area.result 0 c.if-area-eq0.true,
)

pub returns-then-across : goal.returns-then-across
returns-then-across c =
    let self = c.args.self.now in
    let r = c.args.r.now in
    let some = pixels_of self (λ none. c.if-area-eq0.false (c.area.ensures ∙ none)) in
    let across = rw (c.columns.ensures.from, c.columns.ensures.long, c.columns-2.ensures.from, c.columns-2.ensures.long)
    at c.is_within-across.ensures in
    let down = rw (c.rows.ensures.from, c.rows.ensures.long, c.rows-2.ensures.from, c.rows-2.ensures.long)
    at c.is_within-down.ensures in
    (λ is. tests_lie self r (sym across ∙ c.if-across.true) (sym down ∙ is), λ lie. down ∙ lies_down self r some lie)

pub returns-else-across : goal.returns-else-across
returns-else-across c =
    let some = pixels_of c.args.self.now (λ none. c.if-area-eq0.false (c.area.ensures ∙ none)) in
    let across = rw (c.columns.ensures.from, c.columns.ensures.long, c.columns-2.ensures.from, c.columns-2.ensures.long)
    at c.is_within-across.ensures in
    (λ is. absurd (let e = sym is ∙ c.if-across.false in cc), λ lie. across ∙ lies_across _ c.args.r.now some lie)
