use Rattle.nit_rounds.proofs.Lemmas.{client_done, user_done}
use Rattle.nit_rounds.proofs.laws.lines_done.Goals as goal

pub returns : goal.returns
returns c = record { client = client_done; user = user_done }
