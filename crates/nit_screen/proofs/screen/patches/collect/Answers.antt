use Rattle.std.proofs.Common.{add-one}
use Rattle.nit_screen.proofs.Lemmas.{ap, are_kept, arith, rules, views_next, ◌∙◌}
use Rattle.nit_screen.proofs.screen.patches.collect.Goals as goal

pub views-preserved : goal.views-preserved
views-preserved c =
    let far = c.views.invariant in
    let wide = ap (λ size. size.0) c.size-width.ensures.size in
    let tall = ap (λ size. size.1) c.size-width.ensures.size in
    record {
      count = search rules;
      patches = rw add-one
          (are_kept c.args.stack.now.width c.views.patches c.views.i c.patch_of.result (omega arith)
          (rw wide at c.patch_of.ensures.patch) far.patches);
      same = λ x y left above.
          views_next c.args.stack.now c.views.patches c.views.i x y c.patch_of.result c.at-v.result c.rect-rect.result
          c.len-i-end.ensures.standing (omega arith) far.patches c.at-v.ensures.place
          (c.rect-rect.ensures.place c.views.i c.at-v.ensures.place)
          (c.patch_of.ensures.number ∙ c.number_of-number.ensures.number)
          (c.patch_of.ensures.same x y (omega arith) (omega arith)) (far.same x y left above);
    }
