use Rattle.nit_word.proofs.Lemmas.{all_reached}
use Rattle.nit_word.proofs.words.Words.of.Goals as goal

pub returns : goal.returns
returns c = rw (c.len.ensures, c.args.words.ok.0) (all_reached c.args.words.items)
