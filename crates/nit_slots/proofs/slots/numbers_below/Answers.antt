use Rattle.nit_slots.proofs.Lemmas.{YieldsList-from_range, arith, items_from_collect, refl}
use Rattle.nit_slots.proofs.slots.numbers_below.Goals as goal

pub returns : goal.returns
returns c = items_from_collect _ c.collect.ensures.ran
    (YieldsList-from_range 0 c.args.total c.args.total refl (omega arith))
