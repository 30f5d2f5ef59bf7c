use Rattle.nit_host.proofs.Lemmas.{arith, whole_on}
use Rattle.nit_host.proofs.host.area.whole.Goals as goal

pub returns-clause-screen : goal.returns-clause-screen
returns-clause-screen c =
    whole_on c.args.width c.args.height c.of_rows.result c.add.new.self (rw c.none-parts.ensures at c.add.ensures.added)
    c.add.ensures.parts (c.of_rows.ensures.area c.args.height (omega arith))

pub returns-clause-all : goal.returns-clause-all
returns-clause-all c = λ x y wide high. c.add.ensures.added.own x y (c.of_rows.ensures.all x y wide high)
