use Rattle.std.proofs.Common.{arith, refl, take, take_all, ◌≡◌}
use Rattle.nit_damage.proofs.Lemmas.{in_front_of}
use Rattle.nit_damage.proofs.cutter.Cutter.begin_gone.Goals.{in-None, in-Some}
use Rattle.nit_damage.proofs.cutter.Cutter.begin_gone.Goals as goal

-- the views that are to be cut out
front : (c : goal.After-begin_behind) → take c.match-at.place c.args.stack.now.views
    ≡ in_front_of c.args.at c.args.stack.now.views
front c = elim c.match-at.branch [
  | in-Some w ↦ rw (w.place-is, w.place_of-place.ensures.place, w.in-Some.is) refl
  | in-None w ↦ rw w.in-None.is (take_all _ _ (omega (arith, w.place-is, w.len-place.ensures.count)))
]

pub returns-clause-to_come : goal.returns-clause-to_come
returns-clause-to_come c = rw (← front c) c.begin_behind.ensures.to_come
