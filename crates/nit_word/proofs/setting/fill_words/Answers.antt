use Rattle.nit_word.proofs.Lemmas.{filled}
use Rattle.nit_word.proofs.setting.fill_words.Goals as goal

pub returns : goal.returns
returns c = filled c.args.from c.args.to c.args.w c.args.words.now c.fill.new.self c.requires.order c.requires.room
    (c.fill.ensures.after (λ y e. e))
