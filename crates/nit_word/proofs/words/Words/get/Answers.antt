use Rattle.nit_word.proofs.Lemmas.{arith, filled_at, get_or_past}
use Rattle.nit_word.proofs.words.Words.get.Goals as goal

pub returns-else-i-len : goal.returns-else-i-len
returns-else-i-len c =
    rw (← c.self.view_is, filled_at c.self.inside.size c.self.inside.reached.items c.args.i)
    (rw (get_or_past c.self.inside.reached.items c.args.i 0 (omega (arith, c.if-i-len.false, c.len.ensures))))
