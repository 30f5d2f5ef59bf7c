use Rattle.nit_stack.proofs.Lemmas.{agree_by, owner_is, owner_named, owner_of_session}
use Rattle.nit_stack.proofs.laws.owners_by_slot.Goals as goal

pub returns : goal.returns
returns c = assumption (owner_is, agree_by, owner_named, owner_of_session)
