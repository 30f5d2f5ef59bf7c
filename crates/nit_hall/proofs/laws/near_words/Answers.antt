use Rattle.nit_hall.proofs.Lemmas.{near_word, replay, source_at}
use Rattle.nit_hall.proofs.laws.near_words.Goals as goal

pub returns : goal.returns
returns c = λ config scripts input journal k w near.
    near_word config scripts input journal k (source_at (replay config journal) k) w near
