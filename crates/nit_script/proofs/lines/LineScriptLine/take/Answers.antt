use Rattle.nit_script.proofs.Lemmas.{client_reader, in_front}
use Rattle.nit_script.proofs.lines.LineScriptLine.take.Goals as goal

pub returns : goal.returns
returns c = in_front client_reader (λ x. (x.0, x.1.now)) c.args.bytes.now c.take_line.result c.take_line.ensures
