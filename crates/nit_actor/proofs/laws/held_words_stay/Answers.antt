use Rattle.nit_actor.proofs.Lemmas.{held_still}
use Rattle.std.proofs.Common.{refl, ◌++◌}
use Rattle.nit_actor.proofs.laws.held_words_stay.Goals as goal

pub returns : goal.returns
returns c = λ config front between rest held k is inside clean.
    held_still config ((front ++ between) ++ rest) held is front between rest k refl inside clean
