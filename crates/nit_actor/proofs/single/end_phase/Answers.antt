use Rattle.nit_actor.proofs.Lemmas.{phase_ended, refl, rules, user_at_phase}
use Rattle.nit_actor.proofs.single.end_phase.Goals as goal

pub arrive_user-requires : goal.arrive_user-requires
arrive_user-requires c = record {
  belongs = search rules;
  ready = search rules;
  next = user_at_phase c.args.room.now c.args.pass.now c.args.user.now c.requires.step c.requires.next;
}

pub returns-clause-on : goal.returns-clause-on
returns-clause-on c =
    phase_ended _ _ _ c.requires.step c.requires.next c.arrive.ensures.room c.arrive_user.ensures.room
    c.arrive.ensures.pass c.arrive_user.ensures.user

pub returns-clause-scene : goal.returns-clause-scene
returns-clause-scene c = rw (c.arrive_user.ensures.room, c.arrive.ensures.room) refl
