use Rattle.nit_overlay.proofs.owner.piece_at.Given as goal
use Rattle.nit_overlay.proofs.Lemmas.{RunSoFar}

abbrev pub invariant-views : goal.invariant-views
invariant-views l = RunSoFar l.lettered.look.stack.now.views l.i l.x l.y l.to l.end
