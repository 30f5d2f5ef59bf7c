use Rattle.nit_clip.proofs.Lemmas.{one_legal, same_but_focus, told_alike}
use Rattle.nit_clip.proofs.laws.clip_text_is_one.Goals as goal

pub returns : goal.returns
returns c = record { entries = same_but_focus; text = told_alike; legal = one_legal }
