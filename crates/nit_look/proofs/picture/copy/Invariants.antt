use Rattle.nit_look.proofs.Lemmas.{AreEdges, IsMerged, is_in_rows}
use Rattle.nit_look.proofs.picture.copy.Given as goal

abbrev pub invariant-loop-row : goal.invariant-loop-row
invariant-loop-row l = record {
  copied : IsMerged (is_in_rows l.width l.columns.0 l.columns.1 l.fn.rows.0 l.row) l.frame l.initial.out l.out;
  edges : AreEdges l.width l.row l.out l.initial.out l.found;
}
