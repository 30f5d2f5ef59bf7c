use Rattle.nit_screen.proofs.Lemmas.{change_of_call}
use Rattle.nit_screen.proofs.laws.calls_change_one_view.Goals as goal

pub returns : goal.returns
returns c = change_of_call
