use Rattle.std.proofs.Common.{length, ◌-◌, ◌≡◌}
use Rattle.nit_actor.proofs.Lemmas.{Belongs, role_of}
use Rattle.nit_actor.proofs.actor.PassActorGatedHall.run.Given as goal

abbrev pub invariant-lines : goal.invariant-lines
invariant-lines g l = record {
  same : role_of l.self ≡ role_of l.initial.self;
  belongs : Belongs g.N.Name.parts l.self;
}

abbrev pub decreases-lines : goal.decreases-lines
decreases-lines g l = length l.self.script - l.self.next
