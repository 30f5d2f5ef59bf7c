use Rattle.nit_word.proofs.Lemmas.{alternated}
use Rattle.nit_word.proofs.setting.alternate_words.Goals as goal

pub returns : goal.returns
returns c = alternated c.args.from c.args.to c.args.c c.args.d c.args.words.now c.take_turns.new.words c.requires.order
    c.requires.room c.take_turns.ensures
