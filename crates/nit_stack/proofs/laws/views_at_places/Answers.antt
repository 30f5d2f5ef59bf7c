use Rattle.nit_stack.proofs.Lemmas.{drop_at, place_is, slot_at}
use Rattle.nit_stack.proofs.laws.views_at_places.Goals as goal

pub returns : goal.returns
returns c = record { slot = slot_at; place = place_is; rest = drop_at }
