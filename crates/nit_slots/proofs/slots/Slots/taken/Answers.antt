use Rattle.nit_slots.proofs.Lemmas.{occupied}
use Rattle.nit_slots.proofs.slots.Slots.taken.Goals as goal

pub returns-clause-occupancy : goal.returns-clause-occupancy
returns-clause-occupancy c = rw (← c.self.view_is) (occupied c.self.inside.free.items c.self.inside.total)
