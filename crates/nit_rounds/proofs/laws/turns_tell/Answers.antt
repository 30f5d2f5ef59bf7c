use Rattle.nit_rounds.proofs.Lemmas.{tells_client, tells_user}
use Rattle.nit_rounds.proofs.laws.turns_tell.Goals as goal

pub returns : goal.returns
returns c = record { client = λ m. tells_client m.doing m.number; user = λ m. tells_user m.doing m.number }
