use Rattle.std.proofs.Common.{arith, ◌+◌}
use Rattle.nit_overlay.proofs.Lemmas.{ap, sym, word_by, ◌∙◌}
use Rattle.nit_overlay.proofs.NarrowLemmas.{plain_rule}
use Rattle.nit_overlay.specs.Terms.{mode_rule}
use Rattle.nit_overlay.proofs.narrow.plain_pixel.Goals as goal

pub returns : goal.returns
returns c owned =
    let s = c.plain_stripe-stripe.result in
    let x = c.args.x in
    let y = c.args.y in
    c.plain_word.ensures x y
    ∙ ap (λ b. word_by (mode_rule s.mode b s.focused) x y c.args.raw) c.is_ring-is_ring.ensures
    ∙ ap (λ r. word_by r x y c.args.raw) (sym (plain_rule s x c.plain_stripe-stripe.ensures.untagged))
    ∙ c.plain_stripe-stripe.ensures.words x c.args.raw (x + 1) owned (omega arith)
    (c.is_clear_of.ensures c.if-not-is_clear_of.false)
