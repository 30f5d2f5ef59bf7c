use Rattle.nit_word.proofs.Lemmas.{Sight, ap, arith, row_loaded}
use Rattle.nit_word.proofs.inked.InkedGlass.load_row.Goals as goal

pub returns-clause-loaded : goal.returns-clause-loaded
returns-clause-loaded c =
    let e = c.read.ensures in
    rw (← c.self.view_is)
    (row_loaded _ c.self.inside.words _ c.read.new.row c.args.from c.self.invariant.0 c.self.invariant.1
    (let places = c.requires.places in let size =
    ap (λ (g : Sight). g.size) c.self.view_is in omega (arith, places, size, e.count))
    (λ j inside. e.words j (omega (arith, inside, e.count))))
