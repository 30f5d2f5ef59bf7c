use Rattle.std.proofs.Common.{◌≡◌, ◌≤◌}
use Rattle.nit_repaint.proofs.Lemmas.{FitsStack, IsRepaint, Point, has_come, pieces_left}
use Rattle.nit_repaint.proofs.Lemmas.{source_of_number, to_come}
use Rattle.nit_repaint.proofs.painter.Painter.paint_to_come.Given as goal

abbrev pub invariant-pieces : goal.invariant-pieces
invariant-pieces g l = record {
  fits : FitsStack l.self.cutter l.stack;
  less : (p : Point) → to_come l.self.cutter l.stack p ≤ to_come l.initial.self.cutter l.stack p;
  marked : IsRepaint (source_of_number l.stack) (has_come l.initial.self.cutter l.self.cutter l.stack)
      (g.L.Glasses.sights l.initial.glasses) (g.L.Glasses.sights l.glasses) l.initial.self l.self;
  rest : g.L.Glasses.rest l.glasses ≡ g.L.Glasses.rest l.initial.glasses;
}

abbrev pub decreases-pieces : goal.decreases-pieces
decreases-pieces g l = pieces_left l.self.cutter l.stack
