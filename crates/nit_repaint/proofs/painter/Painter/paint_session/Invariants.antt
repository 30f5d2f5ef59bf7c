use Rattle.std.proofs.Common.{◌≡◌}
use Rattle.nit_repaint.proofs.Lemmas.{IsRepaint, pixel, source_of_number, wanted_of_first}
use Rattle.nit_repaint.proofs.painter.Painter.paint_session.Given as goal

abbrev pub invariant-views : goal.invariant-views
invariant-views g l = record {
  marked : IsRepaint (source_of_number l.stack)
      (λ k. wanted_of_first l.i l.of l.part l.stack (pixel l.stack.width k))
      (g.L.Glasses.sights l.initial.glasses) (g.L.Glasses.sights l.glasses) l.initial.self l.self;
  rest : g.L.Glasses.rest l.glasses ≡ g.L.Glasses.rest l.initial.glasses;
}
