use Rattle.nit_clip.proofs.Lemmas.{clip_reader, in_front}
use Rattle.nit_clip.proofs.lines.ClipLineScriptLine.take.Goals as goal

pub returns : goal.returns
returns c = in_front clip_reader (λ x. (x.0, x.1.now)) c.args.bytes.now c.take_line.result c.take_line.ensures
