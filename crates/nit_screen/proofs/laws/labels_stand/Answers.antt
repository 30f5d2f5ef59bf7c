use Rattle.nit_screen.proofs.Lemmas.{labels_stand}
use Rattle.nit_screen.proofs.laws.labels_stand.Goals as goal

pub returns : goal.returns
returns c = labels_stand
