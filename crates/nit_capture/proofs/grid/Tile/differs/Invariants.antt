use Rattle.nit_capture.proofs.Lemmas.{SameRows}
use Rattle.nit_capture.proofs.grid.Tile.differs.Given as goal

abbrev pub invariant-loop-row : goal.invariant-loop-row
invariant-loop-row l = SameRows l.self.grid.width l.self.number l.row l.before l.now
