use Rattle.std.proofs.Common.{arith}
use Rattle.nit_overlay.proofs.StripeLemmas.{row_words}
use Rattle.nit_overlay.specs.Terms.{scenery}
use Rattle.nit_overlay.proofs.stripe.band_at.Goals as goal

pub returns-clause-words : goal.returns-clause-words
returns-clause-words c x z w from less =
    let l = c.args.lettered.now in
    let tag = c.tag_at-tag.ensures in
    row_words l.look.mode (scenery l) c.args.owner.now.view _ _ _ _ x z w
    (c.ring_at-edge.ensures.same x z from (omega (arith, tag.within))) c.is_focused.ensures tag.undrawn
    (λ draws rule. tag.drawn draws rule x z w from less)
