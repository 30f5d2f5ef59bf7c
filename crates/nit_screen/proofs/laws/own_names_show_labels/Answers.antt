use Rattle.nit_screen.proofs.Lemmas.{labels_shown}
use Rattle.nit_screen.proofs.laws.own_names_show_labels.Goals as goal

pub returns : goal.returns
returns c = labels_shown
