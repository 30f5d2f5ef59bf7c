use Rattle.std.proofs.Common.{[], ap, arith, pos, sym, ◌∙◌, ◌≡◌}
use Rattle.nit_overlay.proofs.Basics.{Point, get_or_default, ints, label_place_of, scenery, view_text}
use Rattle.nit_overlay.proofs.StripeLemmas.{drawn}
use Rattle.nit_overlay.specs.Below.{label_text_of}
use Rattle.nit_overlay.proofs.stripe.tag_at.Goals as goal

pub returns-clause-drawn : goal.returns-clause-drawn
returns-clause-drawn c draws rule x z w from less =
    let l = c.args.lettered.now in
    let view = c.args.owner.now.view in
    let label = get_or_default l.look.labels.now view.sid c.index-lettered-owner.result [] c.requires.owner.session in
    drawn l.lettering (view_text (scenery l) view) c.label_text-text.result
    (label_place_of (scenery l) view) c.in-Some.place _ _ rule x z w
    (c.label_text-text.ensures ∙ ap (λ t. label_text_of t view.title) label)
    (sym c.in-Some.is ∙ c.requires.owner.place draws)
    (λ q is.
    let column : c.in-Some.place.x ≡ pos q.0 = ap (λ (p : Point). p.x) is in
    let row : c.in-Some.place.y ≡ pos q.1 = ap (λ (p : Point). p.y) is in
    (grind (arith, ints, column), grind (arith, ints, row)))
    (omega arith) (omega arith)
