use Rattle.std.proofs.Common.{take, vec_capacity, ◌≡◌}
use Rattle.nit_host.proofs.host.shown.remember.Given as goal

abbrev pub invariant-views : goal.invariant-views
invariant-views l = record {
  items : l.shown.items ≡ take l.i l.desktop.state.stack;
  room : vec_capacity l.shown ≡ vec_capacity l.initial.shown;
}
