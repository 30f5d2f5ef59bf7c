use Rattle.nit_screen.proofs.Lemmas.{IsRawOf, held_is_raw, keeps_each}
use Rattle.nit_screen.proofs.laws.raw_stays_raw.Goals as goal

pub returns : goal.returns
returns c = λ s taken e glasses glasses' raw raw' agrees painted before.
    keeps_each c.deliveries_fit.ensures IsRawOf s taken e glasses glasses' raw raw' agrees painted (held_is_raw glasses)
    before
