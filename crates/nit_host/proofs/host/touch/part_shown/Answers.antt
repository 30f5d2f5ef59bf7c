use Rattle.std.proofs.Common.{arith, false, true, ◌≡◌}
use Rattle.nit_host.proofs.Lemmas.{and_parts, covers, ints, point, shown_there}
use Rattle.nit_host.proofs.host.touch.part_shown.Goals as goal

pub returns-then-not-is_meant : goal.returns-then-not-is_meant
returns-then-not-is_meant c = record {
  area = c.none.ensures.area c.args.size.0 c.args.size.1;
  there = λ x y wide high is. let wrong : false ≡ true = rw c.if-not-is_meant.true at is in cc;
}

pub returns : goal.returns
returns c = record {
  area = c.meet.ensures.area c.args.size.0 c.args.size.1 c.of_rect.ensures.area (record {
    across = c.clip-left.ensures.order;
    down = c.clip-top.ensures.order;
    wide = c.clip-left.ensures.most;
    high = c.clip-top.ensures.most;
  });
  there = λ x y wide high is.
      let x2 = c.x-2.ensures in
      let y2 = c.y-2.ensures in
      let meant = and_parts c.args.is_meant _ is in
      let rest = and_parts (covers c.args.view.now.rect (point x y)) _ meant.1 in
      c.meet.ensures.both x y (c.of_rect.ensures.there x y wide high rest.0)
      (shown_there c.args.part.now c.args.view.now x y c.w.result c.h.result c.clip-left.result.0 c.clip-left.result.1
      c.clip-top.result.0 c.clip-top.result.1 _ _
      (omega (arith, ints, c.x.ensures.value, c.x.ensures.range, x2.value, x2.range, c.requires.0))
      (omega (arith, ints, c.y.ensures.value, c.y.ensures.range, y2.value, y2.range, c.requires.1))
      c.w.ensures.value c.h.ensures.value (c.clip-left.ensures.same x wide) (c.clip-top.ensures.same y high) rest.1);
}
