use Rattle.std.proofs.Common.{All}
use Rattle.std.specs.Vec.Iter.{into_iter_items}
use Rattle.nit_hall.specs.Pass.{Belongs}
use Rattle.nit_hall.specs.ClipPass.{ClipBelongs}
use Rattle.nit_tests.proofs.scenes.actors.clients.Given as goal

abbrev pub invariant-loop-pass : goal.invariant-loop-pass
invariant-loop-pass g l = record {
  can : (goal.iterator-loop-pass g).can_next l.pass-iterator;
  ends : (goal.iterator-loop-pass g).is_finite l.pass-iterator;
  passes : All (Belongs g.N.Name.parts) (into_iter_items l.pass-iterator);
  clips : All (ClipBelongs g.N.Name.parts) (into_iter_items l.clips);
}
