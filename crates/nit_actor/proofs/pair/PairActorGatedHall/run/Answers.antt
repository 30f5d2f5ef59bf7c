use Rattle.nit_actor.proofs.Lemmas.{pair_none}
use Rattle.nit_actor.proofs.pair.PairActorGatedHall.run.Goals as goal

pub returns-clause-done : goal.returns-clause-done
returns-clause-done g c =
    pair_none c.run_pair.new.pass c.run_pair.new.clip c.run_pair.ensures.pass.done c.run_pair.ensures.clip_done
