use Rattle.nit_script.proofs.Lemmas.{input_reading}
use Rattle.nit_script.proofs.lines.InputLineScriptLine.one_in_front.Goals as goal

pub returns : goal.returns
returns c = input_reading
