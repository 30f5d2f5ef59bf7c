use Rattle.std.proofs.Common.{map, ◌≡◌, All}
use Rattle.nit_actor.proofs.Lemmas.{IsUnderWay, NoneIsBefore}
use Rattle.nit_actor.proofs.mine.step_actors.Given as goal

abbrev pub invariant-actors : goal.invariant-actors
invariant-actors g l = record {
  same : map g.A.Actor.role l.actors ≡ map g.A.Actor.role l.initial.actors;
  fit : All (λ a. g.A.Actor.fits (g.A.Actor.role a)) l.actors;
  least : NoneIsBefore g.A.Actor.left l.phase l.actors;
  way : IsUnderWay g.A.Actor.left g.A.Actor.steps l.phase l.actor-index l.initial.actors l.actors;
}
