use Rattle.nit_rounds.proofs.Lemmas.{NoneHas}
use Rattle.nit_rounds.proofs.places.Places.first_active.Given as goal

abbrev pub invariant-loop-actor : goal.invariant-loop-actor
invariant-loop-actor l = NoneHas l.scripts l.input l.self.places l.phase l.from l.actor
