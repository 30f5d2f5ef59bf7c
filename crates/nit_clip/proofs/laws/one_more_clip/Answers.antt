use Rattle.nit_clip.proofs.Lemmas.{last_within, legal_more}
use Rattle.nit_clip.proofs.laws.one_more_clip.Goals as goal

pub returns : goal.returns
returns c = record { place = last_within; legal = legal_more }
