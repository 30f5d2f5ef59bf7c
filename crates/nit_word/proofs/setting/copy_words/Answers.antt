use Rattle.nit_word.proofs.Lemmas.{copied}
use Rattle.nit_word.proofs.setting.copy_words.Goals as goal

pub returns : goal.returns
returns c = copied c.args.from c.args.to c.args.others.now c.args.words.now c.copy_from_slice.new.self c.requires.order
    c.requires.room c.requires.others c.copy_from_slice.ensures.after
