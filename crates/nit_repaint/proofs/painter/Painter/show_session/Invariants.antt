use Rattle.std.proofs.Common.{length, ◌≡◌}
use Rattle.nit_repaint.proofs.Lemmas.{AreSet, pixel, shown_at, wanted_of_first}
use Rattle.nit_repaint.proofs.painter.Painter.show_session.Given as goal

abbrev pub invariant-views : goal.invariant-views
invariant-views l = record {
  room : l.self.cutter.room ≡ l.initial.self.cutter.room;
  raw : l.self.raw ≡ l.initial.self.raw;
  shown : AreSet (λ k. wanted_of_first l.i l.of l.part l.lettered.look.stack.now (pixel l.lettered.look.stack.now.width k))
      (length l.initial.self.raw.items) (shown_at l.lettered l.initial.self.raw.items) l.initial.frame l.frame;
}
