use Rattle.std.proofs.Common.{◌+◌}
use Rattle.nit_word.proofs.Lemmas.{filled_at}
use Rattle.nit_word.proofs.words.Words.read.Goals as goal

pub returns-clause-words : goal.returns-clause-words
returns-clause-words c = λ j inside.
    rw (← c.self.view_is, filled_at c.self.inside.size c.self.inside.reached.items (c.args.from + j))
    (rw (← c.deref.ensures.value) (c.read_words.ensures.words j inside))
