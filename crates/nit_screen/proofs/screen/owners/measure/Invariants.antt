use Rattle.nit_screen.proofs.Lemmas.{AreWritten, label_scenery, label_width, length}
use Rattle.nit_screen.proofs.screen.owners.measure.Given as goal

abbrev pub invariant-views : goal.invariant-views
invariant-views l =
    AreWritten l.stack (λ v. label_width (label_scenery l.lettering l.stack l.labels) v.view) l.i (length l.initial.widths) l.widths
