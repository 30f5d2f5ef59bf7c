use Rattle.nit_actor.proofs.Lemmas.{left_in_all, left_more}
use Rattle.nit_actor.proofs.mine.least_phase.Goals as goal

pub actors-preserved : goal.actors-preserved
actors-preserved g c = left_more g.A.Actor.left _ c.actors.actor-index _ _ _ _ c.actors-test.true c.actor-item.is
    c.phase_left.ensures c.lesser-least.ensures c.actors.invariant

pub returns : goal.returns
returns g c = left_in_all g.A.Actor.left _ c.args.user.now c.actors.actor-index _ _ _ c.actors-test.false
    c.user_phase_left.ensures c.lesser.ensures c.actors.invariant
