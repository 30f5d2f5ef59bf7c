use Rattle.std.proofs.Common.{length, ◌-◌, ◌≡◌}
use Rattle.nit_actor.proofs.Lemmas.{AreInStep, actions_to_be, role_of, user_role_of}
use Rattle.nit_actor.proofs.single.run_alone.Given as goal

abbrev pub invariant-lines : goal.invariant-lines
invariant-lines l = record {
  alone : AreInStep l.room l.pass l.user;
  same : role_of l.pass ≡ role_of l.initial.pass;
  user_same : user_role_of l.user ≡ user_role_of l.initial.user;
  parts : l.room.parts ≡ l.initial.room.parts;
  recorded : actions_to_be l.room.scene.entries l.pass ≡ actions_to_be l.initial.room.scene.entries l.initial.pass;
}

abbrev pub decreases-lines : goal.decreases-lines
decreases-lines l = length l.pass.script - l.pass.next
