use Rattle.nit_word.proofs.Lemmas.{arith, length-set, one_loaded, ◌∙◌}
use Rattle.nit_word.proofs.glass.Glass.load_row.Goals as goal

pub places-preserved : goal.places-preserved
places-preserved g c =
    let i = c.places.invariant in
    let e = c.load.ensures in
    record {
      loaded = one_loaded _ _ _ c.args.from c.places.j c.load.result c.places.row
          (omega (arith, c.places-test.true, i.count)) e.loaded e.sight i.loaded;
      count = length-set c.places.row c.places.j c.load.result ∙ i.count;
      rest = e.rest ∙ i.rest;
    }
