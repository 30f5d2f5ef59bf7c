use Rattle.std.proofs.Common.{map, ◌≡◌}
use Rattle.nit_actor.proofs.Lemmas.{CanTakeTurns, TakesShots}
use Rattle.nit_actor.proofs.mine.run_turns.Given as goal

abbrev pub invariant-turns : goal.invariant-turns
invariant-turns g l = record {
  same : map g.A.Actor.role l.actors ≡ map g.A.Actor.role l.initial.actors;
  user : TakesShots g.S.Store.shown g.W.UserTurns.parts l.initial.user l.user l.initial.desk l.desk;
  can : CanTakeTurns g.W.UserTurns.parts (λ a. g.A.Actor.fits (g.A.Actor.role a)) l.actors l.user l.desk;
}
