use Rattle.nit_look.proofs.Lemmas.{AgreeIn, CoversChange, IsCopied, IsTouched, LiesOn, None, Some}
use Rattle.nit_look.proofs.Lemmas.{all_edges, arith, bottom_below, copied_in, covers_change}
use Rattle.nit_look.proofs.Lemmas.{holds_of_it, ints, kept_outside, lies_on, mul_comm, none_differs}
use Rattle.nit_look.proofs.Lemmas.{shown_between, touched, whole_frame, ◌∙◌}
use Rattle.nit_look.proofs.picture.look.Goals as goal

pub returns-in_err-copy : goal.returns-in_err-copy
returns-in_err-copy c =
    let copied : IsCopied c.args.width c.range-columns.result.0 c.range-columns.result.1 c.range-rows.result.0
    c.range-rows.result.1 c.args.part.now c.args.frame.now c.args.out.now c.copy.new.out = record {
      x = omega (arith, ints, c.range-columns.ensures, c.x.ensures);
      w = omega (arith, c.range-columns.ensures, c.w.ensures);
      y = omega (arith, ints, c.range-rows.ensures, c.y.ensures);
      h = omega (arith, c.range-rows.ensures, c.h.ensures);
      merged = c.copy.ensures.copied;
    } in
    let old = c.requires.out ∙ c.requires.frame ∙ mul_comm c.args.width c.args.height in
    let edges = all_edges copied c.args.height None c.requires.some c.requires.part c.in_err-copy.ensures.edges in
    record {
      copied = copied_in copied;
      kept = kept_outside copied;
      frame = whole_frame copied (c.copy.auto.out ∙ c.requires.out);
      none = (
        (λ _. none_differs c.args.width c.args.height c.copy.new.out c.args.out.now (c.copy.auto.out ∙ old) old edges),
        (λ _. c.from_residual.ensures),
      );
      screen = rw c.from_residual.ensures tt;
      inside = rw c.from_residual.ensures tt;
      least = rw c.from_residual.ensures tt;
      shown = rw c.from_residual.ensures tt;
    }

pub rectangle_of-requires-clause-high : goal.rectangle_of-requires-clause-high
rectangle_of-requires-clause-high c =
    let low = c.requires.part.bottom in
    omega (
      arith,
      ints,
      c.range-rows.ensures,
      c.y.ensures,
      c.h.ensures,
      bottom_below c.args.width c.range-rows.result.1 _ _ _ c.in_ok-copy.ensures.edges c.requires.some,
    )

pub returns : goal.returns
returns c =
    let copied : IsCopied c.args.width c.range-columns.result.0 c.range-columns.result.1 c.range-rows.result.0
    c.range-rows.result.1 c.args.part.now c.args.frame.now c.args.out.now c.copy.new.out = record {
      x = omega (arith, ints, c.range-columns.ensures, c.x.ensures);
      w = omega (arith, c.range-columns.ensures, c.w.ensures);
      y = omega (arith, ints, c.range-rows.ensures, c.y.ensures);
      h = omega (arith, c.range-rows.ensures, c.h.ensures);
      merged = c.copy.ensures.copied;
    } in
    let old = c.requires.out ∙ c.requires.frame ∙ mul_comm c.args.width c.args.height in
    let edges = all_edges copied c.args.height (Some c.in_ok-copy.field-0) c.requires.some c.requires.part
    c.in_ok-copy.ensures.edges in
    let shows = c.rectangle_of.ensures.value in
    record {
      copied = copied_in copied;
      kept = kept_outside copied;
      frame = whole_frame copied (c.copy.auto.out ∙ c.requires.out);
      none = ((λ e. let some = rw e at c.rectangle_of.ensures.some in cc), (λ e. absurd (edges.left.2 (cc))));
      screen = holds_of_it (LiesOn c.args.width c.args.height) _ _ shows (lies_on _ _ _ _ _ edges c.requires.some);
      inside = holds_of_it (CoversChange c.args.width c.copy.new.out c.args.out.now) _ _ shows
          (covers_change _ _ _ _ _ edges (c.copy.auto.out ∙ old) old);
      least = holds_of_it (IsTouched c.args.width c.copy.new.out c.args.out.now) _ _ shows (touched _ _ _ _ _ edges);
      shown = holds_of_it (AgreeIn c.args.width c.copy.new.out c.args.frame.now) _ _ shows
          (shown_between copied c.args.height _ edges);
    }
