use Rattle.nit_actor.proofs.Lemmas.{idle_actions}
use Rattle.nit_actor.proofs.laws.idle_user_does_nothing.Goals as goal

pub returns : goal.returns
returns c = idle_actions
