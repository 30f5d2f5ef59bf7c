use Rattle.nit_place.proofs.Lemmas.{row_clear, row_end, row_jump}
use Rattle.nit_place.proofs.search.place_in_row.Goals as goal

pub returns-in-None : goal.returns-in-None
returns-in-None c =
    row_clear _ _ _ _ _ _ _ _ c.places.invariant c.places-test.true c.requires.from_top c.requires.to_bottom
    c.in-None.ensures

pub places-preserved : goal.places-preserved
places-preserved c = row_jump _ _ _ _ _ _ _ _ _ _ c.nearer.ensures c.places.invariant c.in-Some.ensures

pub returns : goal.returns
returns c = row_end _ _ _ _ _ _ _ _ c.places.invariant c.places-test.false
