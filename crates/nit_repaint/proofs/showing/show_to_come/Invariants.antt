use Rattle.std.proofs.Common.{length, ◌≡◌, ◌≤◌}
use Rattle.nit_repaint.proofs.Lemmas.{AreSet, FitsStack, Point, has_come, pieces_left, shown_at}
use Rattle.nit_repaint.proofs.Lemmas.{to_come}
use Rattle.nit_repaint.proofs.showing.show_to_come.Given as goal

abbrev pub invariant-pieces : goal.invariant-pieces
invariant-pieces l = record {
  fits : FitsStack l.cutter l.lettered.look.stack.now;
  room : l.cutter.room ≡ l.initial.cutter.room;
  less : (p : Point) → to_come l.cutter l.lettered.look.stack.now p ≤ to_come l.initial.cutter l.lettered.look.stack.now p;
  shown : AreSet (has_come l.initial.cutter l.cutter l.lettered.look.stack.now) (length l.raw) (shown_at l.lettered l.raw)
      l.initial.frame l.frame;
}

abbrev pub decreases-pieces : goal.decreases-pieces
decreases-pieces l = pieces_left l.cutter l.lettered.look.stack.now
