use Rattle.nit_hall.proofs.Lemmas.{follow_on}
use Rattle.nit_hall.proofs.laws.clips_stay.Goals as goal

pub returns : goal.returns
returns c = follow_on (record { legal = c.one_more_entry.ensures; placed = c.placed_clips_stay.ensures })
