use Rattle.nit_screen.proofs.Lemmas.{AreWritten, label_place_of, label_scenery, length, option_map}
use Rattle.nit_screen.proofs.Lemmas.{pixel_at}
use Rattle.nit_screen.proofs.screen.labels.place_each.Given as goal

abbrev pub invariant-views : goal.invariant-views
invariant-views l =
    AreWritten l.stack (λ v. option_map pixel_at (label_place_of (label_scenery l.lettering l.stack l.labels) v.view)) l.i
    (length l.initial.places) l.places
