use Rattle.nit_script.proofs.Lemmas.{in_front, input_reader}
use Rattle.nit_script.proofs.lines.InputLineScriptLine.take.Goals as goal

pub returns : goal.returns
returns c = in_front input_reader (λ x. (x.0, x.1.now)) c.args.bytes.now c.take_input_line.result
    c.take_input_line.ensures
