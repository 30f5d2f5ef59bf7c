use Rattle.nit_nested.proofs.Lemmas.{arith, kept_more, told_more}
use Rattle.nit_nested.proofs.nest.Nest.frame.Goals as goal

pub invariant_of-self-2 : goal.invariant_of-self-2
invariant_of-self-2 c =
    let long = rw (← c.self.view_is) at c.requires.size in
    let pushed = rw c.in-Ok.ensures at c.in_ok-push.ensures.items in
    kept_more c.args.words.now c.self.invariant long c.requires.words pushed c.count_lines-count.ensures.value
    c.if-self-count-gt-MAX_LINES.false

pub returns-clause-added : goal.returns-clause-added
returns-clause-added c = grind (arith, told_more)
