use Rattle.nit_actor.proofs.Lemmas.{none_before}
use Rattle.nit_actor.proofs.mine.do_turn.Goals as goal

pub step_actors-requires-clause-least : goal.step_actors-requires-clause-least
step_actors-requires-clause-least g c =
    none_before g.A.Actor.left c.args.actors.now c.args.user.now _ _ c.least_phase.ensures c.in-Some.is
