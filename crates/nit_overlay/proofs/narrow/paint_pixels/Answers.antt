use Rattle.std.proofs.Common.{ap, arith, slice_index, ◌∙◌}
use Rattle.nit_overlay.proofs.Lemmas.{stripe_rule, sym, word_by}
use Rattle.std.proofs.lemmas.List.{length-set}
use Rattle.nit_overlay.proofs.NarrowLemmas.{painted_more, plain_rule}
use Rattle.nit_overlay.specs.Terms.{mode_rule}
use Rattle.nit_overlay.proofs.narrow.paint_pixels.Goals as goal

pub pixels-preserved : goal.pixels-preserved
pixels-preserved c =
    let i = c.pixels.invariant in
    let s = c.args.stripe.now in
    let w = slice_index c.args.raw.now c.pixels.x in
    record {
      count = length-set _ _ _ ∙ i.count;
      after = omega (arith, i.after);
      painted = painted_more (λ x w. word_by (stripe_rule s x) x c.args.part.y w) c.args.raw.now c.args.out.now
          c.pixels.out c.args.part.from c.pixels.x _ i.painted i.after
          (omega (arith, i.count, c.requires.row.same_length, c.requires.row.part.within))
          (c.plain_word.ensures c.pixels.x c.args.part.y
          ∙ ap (λ b. word_by (mode_rule s.mode b s.focused) c.pixels.x c.args.part.y w) c.is_ring-is_ring.ensures
          ∙ ap (λ r. word_by r c.pixels.x c.args.part.y w) (sym (plain_rule s c.pixels.x c.requires.untagged)));
    }
