use Rattle.nit_clip.proofs.Lemmas.{never_focused}
use Rattle.nit_clip.proofs.laws.sessions_without_focus.Goals as goal

pub returns : goal.returns
returns c config journal clips sid legal never = never_focused config journal clips sid legal never
