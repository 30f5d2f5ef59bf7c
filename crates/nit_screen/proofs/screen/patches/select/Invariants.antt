use Rattle.std.proofs.Common.{length, take, ◌<◌, ◌≤◌, ◌≡◌, ℕ}
use Rattle.nit_screen.proofs.Lemmas.{ArePatches, first_at}
use Rattle.nit_screen.proofs.screen.patches.select.Given as goal

abbrev pub invariant-patches : goal.invariant-patches
invariant-patches l = record {
  few : l.count ≤ l.i;
  length : length l.kept ≡ length l.initial.kept;
  patches : (width : ℕ) → ArePatches width l.patches → ArePatches width (take l.count l.kept);
  same : (x z : ℕ) → l.from ≤ z → z < l.to
      → first_at (take l.count l.kept) x z ≡ first_at (take l.i l.patches) x z;
}
