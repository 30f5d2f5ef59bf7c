use Rattle.std.proofs.Common.{ℕ, ◌+◌, ◌≡◌}
use Rattle.nit_desktop.proofs.Lemmas.{AreClosedTo}
use Rattle.nit_desktop.proofs.desktop.opening.close_all.Given as goal

abbrev pub invariant-sessions : goal.invariant-sessions
invariant-sessions g l = record {
  closed : AreClosedTo l.initial.desktop.state.config l.sid l.desktop.state;
  left : l.desktop.left + l.sid ≡ l.initial.desktop.left;
  raw : l.desktop.raw ≡ l.initial.desktop.raw;
  sights : (t : ℕ) → g.L.Glasses.sights l.glasses t ≡ g.L.Glasses.sights l.initial.glasses t;
  rest : g.L.Glasses.rest l.glasses ≡ g.L.Glasses.rest l.initial.glasses;
}
