use Rattle.nit_pixels.proofs.Lemmas.{ap, arith, first_owns, first_sight, first_zero, length}
use Rattle.nit_pixels.proofs.Lemmas.{length-zeros, new_sight, opens, table_size, ◌∙◌}
use Rattle.nit_pixels.proofs.buffer.PixelBuffer.new.Goals as goal

pub of_words-requires : goal.of_words-requires
of_words-requires c = rw c.zero_words-words.ensures (opens _ (rw
    (c.of.ensures, ← c.lines-lines.ensures.value) c.lines-lines.ensures.fits))

pub invariant_of-result : goal.invariant_of-result
invariant_of-result c =
    let made = c.in_ok-table.ensures in
    let size = ap (λ z. z.words) made.2 ∙ made.0 ∙ ap length c.zero_words-words.ensures
    ∙ length-zeros (table_size c.args.donation) in (
      first_owns _ c.in_ok-table.seat size made.4 (omega (arith, c.requires)),
      first_zero _ c.in_ok-table.seat made.4,
    )

pub returns-clause-sight : goal.returns-clause-sight
returns-clause-sight c =
    let made = c.in_ok-table.ensures in
    let size = ap (λ z. z.words) made.2 ∙ made.0 ∙ ap length c.zero_words-words.ensures
    ∙ length-zeros (table_size c.args.donation) in
    first_sight _ c.in_ok-table.seat size made.4
    ∙ ap (λ script. new_sight c.args.owner script c.args.donation) c.of.ensures
