use Rattle.nit_damage.proofs.Lemmas.{upright_divided}
use Rattle.nit_damage.proofs.rest.strips_of.Goals as goal

pub returns : goal.returns
returns c = λ p.
    let e = c.requires in
    rw (c.between.ensures, c.between-2.ensures, c.between-3.ensures, c.between-4.ensures)
    (upright_divided c.args.all c.args.cut p e.left e.wide e.right e.top e.tall e.bottom)
