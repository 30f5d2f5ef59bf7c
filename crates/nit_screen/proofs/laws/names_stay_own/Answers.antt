use Rattle.nit_screen.proofs.Lemmas.{keeps_below, keeps_own, named_throughout, names_anew}
use Rattle.nit_screen.proofs.laws.names_stay_own.Goals as goal

pub returns : goal.returns
returns c = record { own = keeps_own; new = names_anew; below = keeps_below; legal = named_throughout }
