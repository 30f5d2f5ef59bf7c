use Rattle.nit_actor.proofs.Lemmas.{all_again, all_ended, also, ready_again, ◌∙◌}
use Rattle.nit_actor.proofs.mine.run_turns.Goals as goal

pub turns-preserved : goal.turns-preserved
turns-preserved g c =
    let i = c.turns.invariant in
    let t = c.do_turn.ensures in
    record {
      same = t.same ∙ i.same;
      user = also g.S.Store.shown g.W.UserTurns.parts _ _ _ _ _ _ i.user t.shots;
      can = record {
        actors_in = all_again g.A.Actor.role g.A.Actor.fits _ _ t.same i.can.actors_in;
        user = ready_again g.S.Store.shown g.W.UserTurns.parts _ _ _ _ i.can.user t.shots;
      };
    }

pub returns-in_default-clause-actors : goal.returns-in_default-clause-actors
returns-in_default-clause-actors g c =
    let t = c.in_default.ensures in
    record {
      same = t.same ∙ c.turns.invariant.same;
      done = rw t.end.0 (all_ended g.A.Actor.left c.turns.actors c.turns.user t.phase).0;
    }

pub returns-in_default-clause-user : goal.returns-in_default-clause-user
returns-in_default-clause-user g c =
    let t = c.in_default.ensures in
    record {
      shots = also g.S.Store.shown g.W.UserTurns.parts _ _ _ _ _ _ c.turns.invariant.user t.shots;
      done = rw t.end.1 (all_ended g.A.Actor.left c.turns.actors c.turns.user t.phase).1;
    }
