use Rattle.nit_screen.proofs.Lemmas.{arith, label_place_of, label_scenery, length, nat_tests}
use Rattle.nit_screen.proofs.Lemmas.{option_map, pixel_at, slice_get-get_or, slot_within}
use Rattle.nit_screen.proofs.Lemmas.{written_more}
use Rattle.nit_screen.proofs.screen.labels.place_each.Goals as goal

pub bounds-places-slot : goal.bounds-places-slot
bounds-places-slot c = grind (arith, nat_tests, slot_within)

pub views-preserved : goal.views-preserved
views-preserved c =
    written_more c.args.stack.now
    (λ v. option_map pixel_at (label_place_of (label_scenery c.args.lettering c.args.stack.now c.args.labels.now) v.view))
    c.views.i (length c.args.places.now) c.views.places c.at-v.result c.place_of_view.result
    c.len-i-end.ensures.standing c.requires.slots c.at-v.ensures.place c.place_of_view.ensures c.views.invariant

pub returns-clause-placed : goal.returns-clause-placed
returns-clause-placed c = grind (arith, nat_tests, slice_get-get_or)
