use Rattle.nit_actor.proofs.Lemmas.{All-set, IsNotBefore, arith, one_taken}
use Rattle.nit_actor.proofs.Lemmas.{same_set, subst, sym, ◌∙◌}
use Rattle.nit_actor.proofs.mine.step_actors.Goals as goal

pub actors-preserved : goal.actors-preserved
actors-preserved g c =
    let i = c.actors.invariant in
    let t = c.do_one_turn.ensures in
    let k = c.actors.actor-index in
    let after' = c.do_one_turn.new.actor in
    record {
      same = same_set g.A.Actor.role c.actors.actors k after' _ (omega arith) t.same ∙ i.same;
      fit = All-set (λ a. g.A.Actor.fits (g.A.Actor.role a)) c.actors.actors k after'
          (subst g.A.Actor.fits (sym t.same) (i.fit k _ (omega arith))) i.fit;
      least = All-set (λ a. IsNotBefore g.A.Actor.left c.args.phase a) c.actors.actors k after' t.least i.least;
      way = one_taken g.A.Actor.left g.A.Actor.steps c.args.phase k _ _ after' _ (omega arith) i.way t.turn;
    }
