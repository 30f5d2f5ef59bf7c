use Rattle.std.proofs.Common.{length, ◌-◌, ◌≡◌}
use Rattle.nit_actor.proofs.Lemmas.{IsPairIn, clip_role_of, role_of}
use Rattle.nit_actor.proofs.pair.run_pair.Given as goal

abbrev pub invariant-lines : goal.invariant-lines
invariant-lines g l = record {
  same : role_of l.pass ≡ role_of l.initial.pass;
  clip_same : clip_role_of l.clip ≡ clip_role_of l.initial.clip;
  pair : IsPairIn g.N.Name.parts l.pass l.clip;
}

abbrev pub decreases-lines : goal.decreases-lines
decreases-lines g l = length l.pass.script - l.pass.next
