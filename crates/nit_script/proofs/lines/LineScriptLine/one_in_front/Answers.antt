use Rattle.nit_script.proofs.Lemmas.{client_reading}
use Rattle.nit_script.proofs.lines.LineScriptLine.one_in_front.Goals as goal

pub returns : goal.returns
returns c = client_reading
