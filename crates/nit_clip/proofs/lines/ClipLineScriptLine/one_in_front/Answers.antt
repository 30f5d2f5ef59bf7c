use Rattle.nit_clip.proofs.Lemmas.{clip_reading}
use Rattle.nit_clip.proofs.lines.ClipLineScriptLine.one_in_front.Goals as goal

pub returns : goal.returns
returns c = clip_reading
