use Rattle.nit_word.proofs.Lemmas.{arith, row_read}
use Rattle.nit_word.proofs.setting.read_words.Goals as goal

pub returns-clause-words : goal.returns-clause-words
returns-clause-words c =
    row_read c.args.from c.min-known.result c.args.words.now c.args.row.now c.copy_from_slice.new.self
    c.fill_words.new.words c.min-known.ensures (omega (arith, c.if-words-from.false))
    c.copy_from_slice.ensures.after
    c.fill_words.ensures
