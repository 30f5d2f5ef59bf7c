use Rattle.nit_word.proofs.Lemmas.{ap, arith, min, none_wiped, wiped, ◌∙◌}
use Rattle.nit_word.proofs.words.wipe.Goals as goal

pub returns-then-from-end-clause-items : goal.returns-then-from-end-clause-items
returns-then-from-end-clause-items c =
    wiped c.args.from c.args.to c.args.words.now.len c.min-end.result c.args.words.now.items c.deref_mut.result.now
    c.fill_words.new.words _ c.args.words.now.ok.0 (c.min-end.ensures ∙ ap (min c.args.to) c.len.ensures)
    c.deref_mut.ensures.value c.fill_words.ensures

pub returns-else-from-end-clause-items : goal.returns-else-from-end-clause-items
returns-else-from-end-clause-items c =
    none_wiped c.args.from c.args.to c.args.words.now.len c.min-end.result c.args.words.now.items c.args.words.now.ok.0
    (c.min-end.ensures ∙ ap (min c.args.to) c.len.ensures) (omega (arith, c.if-from-end.false))
