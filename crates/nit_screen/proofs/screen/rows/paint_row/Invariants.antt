use Rattle.std.proofs.Common.{length, ◌<◌, ◌≤◌, ◌≡◌, true, ℕ}
use Rattle.nit_screen.proofs.Lemmas.{IsBegun}
use Rattle.nit_screen.proofs.Lemmas.{is_filled}
use Rattle.nit_screen.proofs.screen.rows.paint_row.Given as goal

abbrev pub invariant-patches : goal.invariant-patches
invariant-patches l = record {
  begun : IsBegun l.patches (length l.initial.row) l.y l.end l.i l.row l.next;
  after : l.y < l.end;
  within : l.end ≤ l.to;
  reached : l.first ≤ length l.initial.row;
  full : (x : ℕ) → x < l.first → is_filled l.row x ≡ true;
}
