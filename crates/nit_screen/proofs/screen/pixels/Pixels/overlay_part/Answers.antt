use Rattle.nit_screen.proofs.Lemmas.{StackModel, ap, arith, few_views, nat_tests, part_shown, refl}
use Rattle.nit_screen.proofs.Lemmas.{rules, views_of, written, ◌∙◌}
use Rattle.nit_screen.proofs.screen.pixels.Pixels.overlay_part.Goals as goal

pub show_session-requires-clause-room : goal.show_session-requires-clause-room
show_session-requires-clause-room c = grind (arith, nat_tests, few_views)

pub returns : goal.returns
returns c =
    let p = c.args.self.now in
    let is = c.stack.ensures.stack in
    let screen = c.facts.ensures.screen in
    let e = c.show_session.ensures in
    let back = written p.frame.len c.show_session.new.frame p.frame.items
    (e.shown.count ∙ c.as_mut_slice.ensures.len) in
    let shown = part_shown c.args.server.now c.stack.result.now _ c.args.of c.args.part.now p.painter.raw.items
    c.as_mut_slice.result.now c.show_session.new.frame is
    (λ i. record {
      width = (ap (λ (s : StackModel). s.width) is ∙ screen.0) i;
      height = (ap (λ (s : StackModel). s.height) is ∙ screen.1) i;
      bar = (ap (λ (s : StackModel). s.bar) is ∙ screen.2) i;
      stack = views_of (is i).views;
      labels = (c.as_slice.ensures.value ∙ c.requires.can.named) i;
      mode = c.mode.ensures i;
      focus = c.focus.ensures.focus i;
      lettering = c.lettering.ensures i;
    }) e.shown in
    record {
      can = rw back (search rules);
      raw = e.kept.raw;
      kept = (refl, refl, refl);
      labels = refl;
      shown = rw (back, e.kept.raw, ← c.as_mut_slice.ensures.value) shown;
    }
