use Rattle.std.proofs.Common.{length, take, ◌≡◌}
use Rattle.nit_screen.proofs.Lemmas.{AreOfViews, ArePatches}
use Rattle.nit_screen.proofs.screen.patches.collect.Given as goal

abbrev pub invariant-views : goal.invariant-views
invariant-views l = record {
  count : length l.patches ≡ length l.initial.patches;
  patches : ArePatches l.stack.width (take l.i l.patches);
  same : AreOfViews l.stack l.i (take l.i l.patches);
}
