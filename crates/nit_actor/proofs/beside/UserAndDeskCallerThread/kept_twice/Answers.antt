use Rattle.nit_actor.proofs.Lemmas.{also}
use Rattle.nit_actor.proofs.beside.UserAndDeskCallerThread.kept_twice.Goals as goal

pub returns-clause-kept : goal.returns-clause-kept
returns-clause-kept g c = λ own between after' first second. record {
  shots = also g.S.Store.shown g.W.UserTurns.parts own.user between.user after'.user own.desk between.desk after'.desk
      first.shots second.shots;
  done = second.done;
}
