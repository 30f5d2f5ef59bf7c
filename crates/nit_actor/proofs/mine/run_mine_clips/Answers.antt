use Rattle.nit_actor.proofs.Lemmas.{pairs_again}
use Rattle.nit_actor.proofs.mine.run_mine_clips.Goals as goal

pub returns-clause-pairs : goal.returns-clause-pairs
returns-clause-pairs g c = pairs_again g.N.Name.parts _ _ c.run_turns.ensures.actors.same c.requires.actors_in
