use Rattle.std.proofs.Common.{length, ◌<◌, ◌≡◌}
use Rattle.nit_screen.proofs.Lemmas.{IsRemovedFrom, IsRepaint, pixel, source_of_number, uncovered}
use Rattle.nit_screen.proofs.Lemmas.{without_session, without_views}
use Rattle.nit_screen.proofs.screen.views.take_views_away.Given as goal

abbrev pub invariant-views : goal.invariant-views
invariant-views g l = record {
  taken : IsRemovedFrom l.of l.i l.initial.server.stack l.server.stack;
  left : without_views l.of l.server ≡ without_views l.of l.initial.server;
  session : l.of < length l.server.sessions;
  painted : IsRepaint (source_of_number (without_session l.of l.initial.server.stack))
      (λ k. uncovered l.of l.initial.server.stack l.server.stack (pixel l.initial.server.stack.width k))
      (g.L.Glasses.sights l.initial.glasses) (g.L.Glasses.sights l.glasses) l.initial.painter l.painter;
  rest : g.L.Glasses.rest l.glasses ≡ g.L.Glasses.rest l.initial.glasses;
}

abbrev pub decreases-views : goal.decreases-views
decreases-views g l = l.i
