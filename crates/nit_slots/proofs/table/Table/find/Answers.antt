use Rattle.nit_slots.proofs.Lemmas.{none_held}
use Rattle.nit_slots.proofs.table.Table.find.Goals as goal

pub returns-clause-none : goal.returns-clause-none
returns-clause-none c = rw (← c.self.view_is)
    (none_held c.self.inside.pairs.items c.args.h c.slot_of.result (rw c.as_slice.ensures.value at c.slot_of.ensures))
