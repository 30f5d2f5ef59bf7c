use Rattle.std.proofs.Common.{length, ◌-◌, ◌≡◌}
use Rattle.nit_actor.proofs.Lemmas.{IsAtPhaseEnd, IsPairIn}
use Rattle.nit_actor.proofs.pair.do_clips.Given as goal

abbrev pub invariant-calls : goal.invariant-calls
invariant-calls g l = record {
  pass : l.pass ≡ record l.initial.pass {
    met = l.pass.met;
    seen = l.pass.seen;
    sight = record l.initial.pass.sight { stages = l.pass.sight.stages };
  };
  clip : l.clip ≡ record l.initial.clip { next = l.clip.next; seen = l.clip.seen };
  pair : IsPairIn g.N.Name.parts l.pass l.clip;
  at : IsAtPhaseEnd l.pass;
}

abbrev pub decreases-calls : goal.decreases-calls
decreases-calls g l = length l.clip.script - l.clip.next
