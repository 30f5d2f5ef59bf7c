use Rattle.std.proofs.Common.{arith, sym, ◌∙◌}
use Rattle.nit_word.proofs.Lemmas.{none_more, some_more}
use Rattle.nit_word.proofs.words.reach.Goals as goal

pub returns-then-len-count-clause-items : goal.returns-then-len-count-clause-items
returns-then-len-count-clause-items c =
    let old = c.args.words.now in
    rw (sym c.is_ok-fits.ensures.value ∙ c.if-prove.false, old.ok.0) at c.resize-grown.ensures.items
    ∙ some_more c.args.count old.items (omega (arith, c.if-len-count.true, c.len.ensures, old.ok.0))

pub returns-else-len-count-clause-items : goal.returns-else-len-count-clause-items
returns-else-len-count-clause-items c =
    none_more c.args.count c.args.words.now.items
    (omega (arith, c.if-len-count.false, c.len.ensures, c.args.words.now.ok.0))
