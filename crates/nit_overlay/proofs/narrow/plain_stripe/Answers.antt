use Rattle.std.proofs.Common.{Some, arith, ◌≡◌}
use Rattle.nit_overlay.proofs.Lemmas.{ap, owner_in_slot, point, scenery, shown_of_owner, sym, ◌∙◌}
use Rattle.nit_overlay.proofs.NarrowLemmas.{plain_words}
use Rattle.nit_overlay.proofs.SlotLemmas.{standing, told_in}
use Rattle.nit_overlay.specs.Terms.{is_on_ring, is_same}
use Rattle.nit_overlay.proofs.narrow.plain_stripe.Goals as goal

pub returns-clause-words : goal.returns-clause-words
returns-clause-words c x w to owned left clear =
    let l = c.args.lettered.now in
    let s = l.look.stack.now in
    let v = c.args.v in
    let p = point x c.args.y in
    let seat = standing s.views v c.requires.stands in
    let view = seat.0 in
    let rect : c.rect-rect.result ≡ view.rect = grind (arith, seat.1, c.rect-rect.ensures.rect) in
    let session = told_in s.views v view c.session.result seat.1 c.session.ensures in
    plain_words l.look.mode (scenery l) view p _ _ x c.args.y w
    (c.ring_at-edge.ensures.same x c.args.y (omega arith) c.ring_at-edge.ensures.after ∙ ap (λ r. is_on_ring r p) rect)
    (c.is_focused.ensures ∙ ap (λ k. is_same l.look.focus (Some k)) session)
    (λ draws. clear draws view seat.1 x left)
    ∙ sym (shown_of_owner (scenery l) p w view
    (owner_in_slot s.bar s.views p v view c.rect-rect.ensures.standing.slots seat.1 owned))
