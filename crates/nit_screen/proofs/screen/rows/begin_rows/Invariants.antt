use Rattle.std.proofs.Common.{length, ◌-◌, ◌≤◌}
use Rattle.nit_screen.proofs.Lemmas.{IsBegun}
use Rattle.nit_screen.proofs.screen.rows.begin_rows.Given as goal

abbrev pub invariant-patches : goal.invariant-patches
invariant-patches l = record {
  few : l.i ≤ length l.patches;
  begun : IsBegun l.patches (length l.fn.row) l.from l.to l.i l.row l.next;
}

abbrev pub decreases-patches : goal.decreases-patches
decreases-patches l = length l.patches - l.i
