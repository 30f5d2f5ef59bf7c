use Rattle.nit_screen.proofs.Lemmas.{arith, label_scenery, label_width, length, nat_tests}
use Rattle.nit_screen.proofs.Lemmas.{slot_within, written_more}
use Rattle.nit_screen.proofs.screen.owners.measure.Goals as goal

pub bounds-widths-slot : goal.bounds-widths-slot
bounds-widths-slot c = grind (arith, nat_tests, slot_within)

pub views-preserved : goal.views-preserved
views-preserved c =
    written_more c.args.stack.now (λ v. label_width (label_scenery c.args.lettering c.args.stack.now c.args.labels.now) v.view)
    c.views.i (length c.args.widths.now) c.views.widths c.at-v.result
    c.width_of_label.result
    c.len-i-end.ensures.standing c.requires.slots c.at-v.ensures.place c.width_of_label.ensures c.views.invariant
